use Rattle.tree_hash.specs.TreeHash.{permute}
use Rattle.blake3_lanes.proofs.LaneLemmas.{lane_get}
use Rattle.blake3_lanes.proofs.eight.kernel.permute.Goals as goal

pub returns : goal.returns
unfolding permute
returns c j h = simp lane_get
