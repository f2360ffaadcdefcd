use Rattle.tree_hash.specs.TreeHash.{folded}
use Rattle.blake3_lanes.proofs.LaneLemmas.{lane_get}
use Rattle.blake3_lanes.proofs.eight.kernel.folded.Goals as goal

pub returns : goal.returns
unfolding folded
returns c j h =
    rw (c.xor.ensures j h, c.xor-2.ensures j h, c.xor-3.ensures j h, c.xor-4.ensures j h, c.xor-5.ensures j h, c.xor-6.ensures j h, c.xor-7.ensures j h, c.xor-8.ensures j h)
    (simp lane_get)
