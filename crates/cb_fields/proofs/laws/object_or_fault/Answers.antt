use Rattle.cb_fields.proofs.laws.object_or_fault.Goals as goal
use Rattle.cb_fields.proofs.Theorems.{object_or_fault}

pub returns : goal.returns
returns c = object_or_fault
