use Rattle.ddc_model.proofs.laws.entries_keep_logs.Goals as goal
use Rattle.ddc_model.proofs.Noted.{empty_logs, legal_logs}

pub returns-clause-empty : goal.returns-clause-empty
returns-clause-empty c = empty_logs

pub returns-clause-legal : goal.returns-clause-legal
returns-clause-legal c = legal_logs
