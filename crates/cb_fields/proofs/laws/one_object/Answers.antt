use Rattle.cb_fields.proofs.laws.one_object.Goals as goal
use Rattle.cb_fields.proofs.Theorems.{one_object}

pub returns : goal.returns
returns c = one_object
