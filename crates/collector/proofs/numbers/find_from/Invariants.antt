use Rattle.collector.specs.inside.Tables.{IsNoneOfFirst}
use Rattle.collector.proofs.numbers.find_from.Given as goal

abbrev pub invariant-loop-number : goal.invariant-loop-number
invariant-loop-number l = IsNoneOfFirst l.number l.hashes l.hash
