use Rattle.cb_fields.proofs.laws.needs_tells_hashes.Goals as goal
use Rattle.cb_fields.proofs.Theorems.{needs_tells_hashes}

pub returns : goal.returns
returns c = needs_tells_hashes
