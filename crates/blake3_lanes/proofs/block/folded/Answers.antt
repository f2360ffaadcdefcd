use Rattle.std.proofs.Common.{◌<◌, refl, arith}
use Rattle.tree_hash.specs.TreeHash.{folded}
use Rattle.blake3_lanes.proofs.block.folded.Goals as goal

pub returns : goal.returns
unfolding folded
returns c =
    let l0 : 0 < 4 = omega arith in
    let l1 : 1 < 4 = omega arith in
    let l2 : 2 < 4 = omega arith in
    let l3 : 3 < 4 = omega arith in
    rw (c.xor.ensures 0 l0, c.xor.ensures 1 l1, c.xor.ensures 2 l2, c.xor.ensures 3 l3, c.xor-2.ensures 0 l0, c.xor-2.ensures 1 l1, c.xor-2.ensures 2 l2, c.xor-2.ensures 3 l3) refl
