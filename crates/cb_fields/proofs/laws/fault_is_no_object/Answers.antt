use Rattle.cb_fields.proofs.laws.fault_is_no_object.Goals as goal
use Rattle.cb_fields.proofs.Theorems.{fault_is_no_object}

pub returns : goal.returns
returns c = fault_is_no_object
