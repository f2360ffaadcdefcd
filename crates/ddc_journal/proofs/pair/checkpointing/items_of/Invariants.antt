use Rattle.std.proofs.Common.{◌≡◌, ◌++◌, length}
use Rattle.ddc_journal.specs.Journal.{items, AreSized}
use Rattle.ddc_journal.proofs.pair.checkpointing.items_of.Given as goal

abbrev pub invariant-loop-rest : goal.invariant-loop-rest
invariant-loop-rest l = (l.bytes.items ++ items l.rest ≡ items l.bodies) × AreSized l.rest

abbrev pub decreases-loop-rest : goal.decreases-loop-rest
decreases-loop-rest l = length l.rest
