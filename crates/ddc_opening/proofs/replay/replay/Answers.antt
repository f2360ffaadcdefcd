use Rattle.std.proofs.Common.{sym, subst}
use Rattle.ddc_model.specs.Sound.{AreWhole}
use Rattle.ddc_opening.proofs.replay.replay.Goals as goal

pub returns-in-Ok-None-clause-whole : goal.returns-in-Ok-None-clause-whole
returns-in-Ok-None-clause-whole c = subst AreWhole (sym c.first_unsound.ensures.same) (rw c.in-Ok-None.field-0-is at c.in-Ok-None.ensures.found)

pub returns-in-Ok-Some-clause-fault : goal.returns-in-Ok-Some-clause-fault
returns-in-Ok-Some-clause-fault c =
    let replay = c.in_ok-replay.replay in
    (replay.index.state, replay.steps.items, c.in_ok-replay.ensures.replayed, rw c.in-Ok-Some.field-0-is at c.in-Ok-Some.ensures.found)
