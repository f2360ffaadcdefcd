use Rattle.collector.specs.inside.Starts.{AreLeasedGreyTo}
use Rattle.collector.proofs.collection.Collection.shade_leased.Given as goal

abbrev pub invariant-loop-hash : goal.invariant-loop-hash
invariant-loop-hash l = AreLeasedGreyTo l.leased l.hash-index l.initial.self l.self
