use Rattle.std.proofs.Common.{◌<◌, refl, arith}
use Rattle.tree_hash.specs.TreeHash.{block_words}
use Rattle.blake3_lanes.proofs.block.message.Goals as goal

pub returns : goal.returns
unfolding block_words
returns c =
    let l0 : 0 < 4 = omega arith in
    let l1 : 1 < 4 = omega arith in
    let l2 : 2 < 4 = omega arith in
    let l3 : 3 < 4 = omega arith in
    rw (
      c.in_order.ensures,
      c.load.ensures 0 l0,
      c.load.ensures 1 l1,
      c.load.ensures 2 l2,
      c.load.ensures 3 l3,
      c.load-2.ensures 0 l0,
      c.load-2.ensures 1 l1,
      c.load-2.ensures 2 l2,
      c.load-2.ensures 3 l3,
      c.load-3.ensures 0 l0,
      c.load-3.ensures 1 l1,
      c.load-3.ensures 2 l2,
      c.load-3.ensures 3 l3,
      c.load-4.ensures 0 l0,
      c.load-4.ensures 1 l1,
      c.load-4.ensures 2 l2,
      c.load-4.ensures 3 l3,
    ) refl
