use Rattle.std.proofs.Common.{sym, ap, arith, []}
use Rattle.std.specs.declared.cmp.Ordering.{Ordering}
use Rattle.std.specs.Ordering.{is_eq}
use Rattle.collector.proofs.Lists.{first_number, no_number}
use Rattle.collector.proofs.numbers.find_from.Goals as goal

pub returns-in-Equal : goal.returns-in-Equal
returns-in-Equal c =
    sym (first_number c.args.hashes.now c.args.hash.now c.loop-number.number (record { 0 = [] }) c.loop-number-test.true c.loop-number.invariant (sym (ap (λ (o : Ordering). is_eq o) c.in-Equal.ensures)))

pub returns : goal.returns
returns c = sym (no_number c.args.hashes.now c.args.hash.now (λ k d lt. c.loop-number.invariant k d (omega arith)))
