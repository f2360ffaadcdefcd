use Rattle.cb_fields.proofs.laws.fault_lies_within.Goals as goal
use Rattle.cb_fields.proofs.Theorems.{fault_lies_within}

pub returns : goal.returns
returns c = fault_lies_within
