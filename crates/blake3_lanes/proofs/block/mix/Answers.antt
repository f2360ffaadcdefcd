use Rattle.std.proofs.Common.{refl}
use Rattle.tree_hash.specs.TreeHash.{mix}
use Rattle.blake3_lanes.proofs.block.mix.Goals as goal

pub returns : goal.returns
unfolding mix
returns c j h = rw (c.half_mix-2.ensures j h, c.half_mix.ensures j h) refl
