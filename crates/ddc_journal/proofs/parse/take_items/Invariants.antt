use Rattle.std.proofs.Common.{◌≡◌, ◌<◌, ◌≤◌, ◌++◌, length}
use Rattle.ddc_journal.specs.Journal.{items, AreSized}
use Rattle.ddc_journal.proofs.parse.take_items.Given as goal

abbrev pub invariant-loop-rest : goal.invariant-loop-rest
invariant-loop-rest l = record {
  split : items l.bodies ++ l.rest ≡ items l.initial.bodies ++ l.piece;
  some : 0 < length l.rest;
  shorter : length l.rest ≤ length l.piece;
  sized : AreSized l.initial.bodies → AreSized l.bodies;
}

abbrev pub decreases-loop-rest : goal.decreases-loop-rest
decreases-loop-rest l = length l.rest
