use Rattle.ddc_model.proofs.laws.commands_keep_whole.Goals as goal
use Rattle.ddc_model.proofs.Whole.{space_whole, upload_whole, put_whole, finalise_whole, get_whole, delete_whole}

pub returns-clause-space : goal.returns-clause-space
returns-clause-space c = space_whole

pub returns-clause-upload : goal.returns-clause-upload
returns-clause-upload c = upload_whole

pub returns-clause-put : goal.returns-clause-put
returns-clause-put c = put_whole

pub returns-clause-finalise : goal.returns-clause-finalise
returns-clause-finalise c = finalise_whole

pub returns-clause-get : goal.returns-clause-get
returns-clause-get c = get_whole

pub returns-clause-delete : goal.returns-clause-delete
returns-clause-delete c = delete_whole
