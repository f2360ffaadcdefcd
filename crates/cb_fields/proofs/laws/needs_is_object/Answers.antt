use Rattle.cb_fields.proofs.laws.needs_is_object.Goals as goal
use Rattle.cb_fields.proofs.Theorems.{needs_is_object}

pub returns : goal.returns
returns c = needs_is_object
