use Rattle.ddc_model.proofs.laws.entries_are_legal.Goals as goal
use Rattle.ddc_model.proofs.Legal.{space_legal, upload_legal, put_legal, finalise_legal, get_legal, delete_legal}

pub returns-clause-space : goal.returns-clause-space
returns-clause-space c = space_legal

pub returns-clause-upload : goal.returns-clause-upload
returns-clause-upload c = upload_legal

pub returns-clause-put : goal.returns-clause-put
returns-clause-put c = put_legal

pub returns-clause-finalise : goal.returns-clause-finalise
returns-clause-finalise c = finalise_legal

pub returns-clause-get : goal.returns-clause-get
returns-clause-get c = get_legal

pub returns-clause-delete : goal.returns-clause-delete
returns-clause-delete c = delete_legal
