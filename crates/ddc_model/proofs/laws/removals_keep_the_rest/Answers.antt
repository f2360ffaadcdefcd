use Rattle.ddc_model.proofs.laws.removals_keep_the_rest.Goals as goal
use Rattle.ddc_model.proofs.Removals.{expire_removes, expire_others, swept_removes, swept_others, blobs_alone}
use Rattle.ddc_model.proofs.Sound.{expire_sound, swept_sound}
use Rattle.ddc_model.proofs.Whole.{expire_whole, swept_whole}

pub returns-clause-expire : goal.returns-clause-expire
returns-clause-expire c = expire_whole

pub returns-clause-swept : goal.returns-clause-swept
returns-clause-swept c = swept_whole

pub returns-clause-expire_sound : goal.returns-clause-expire_sound
returns-clause-expire_sound c = expire_sound

pub returns-clause-swept_sound : goal.returns-clause-swept_sound
returns-clause-swept_sound c = swept_sound

pub returns-clause-expire_removes : goal.returns-clause-expire_removes
returns-clause-expire_removes c = expire_removes

pub returns-clause-expire_others : goal.returns-clause-expire_others
returns-clause-expire_others c = expire_others

pub returns-clause-swept_removes : goal.returns-clause-swept_removes
returns-clause-swept_removes c = swept_removes

pub returns-clause-swept_others : goal.returns-clause-swept_others
returns-clause-swept_others c = swept_others

pub returns-clause-blobs : goal.returns-clause-blobs
returns-clause-blobs c = blobs_alone
