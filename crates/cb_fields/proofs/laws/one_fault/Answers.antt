use Rattle.cb_fields.proofs.laws.one_fault.Goals as goal
use Rattle.cb_fields.proofs.Theorems.{one_fault}

pub returns : goal.returns
returns c = one_fault
