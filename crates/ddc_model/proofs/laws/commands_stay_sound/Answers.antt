use Rattle.ddc_model.proofs.laws.commands_stay_sound.Goals as goal
use Rattle.ddc_model.proofs.Sound.{empty_sound, space_sound, upload_sound, put_sound, finalise_sound, get_sound, delete_sound}

pub returns-clause-empty : goal.returns-clause-empty
returns-clause-empty c = empty_sound

pub returns-clause-space : goal.returns-clause-space
returns-clause-space c = space_sound

pub returns-clause-upload : goal.returns-clause-upload
returns-clause-upload c = upload_sound

pub returns-clause-put : goal.returns-clause-put
returns-clause-put c = put_sound

pub returns-clause-finalise : goal.returns-clause-finalise
returns-clause-finalise c = finalise_sound

pub returns-clause-get : goal.returns-clause-get
returns-clause-get c = get_sound

pub returns-clause-delete : goal.returns-clause-delete
returns-clause-delete c = delete_sound
