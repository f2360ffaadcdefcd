use Rattle.std.proofs.Common.{◌≡◌}
use Rattle.tests_base.proofs.desk.seen_within.Given as goal

abbrev pub invariant-loop : goal.invariant-loop
invariant-loop g l = l.seat.desk ≡ l.desk
