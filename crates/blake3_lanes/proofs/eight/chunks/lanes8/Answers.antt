use Rattle.std.proofs.Common.{◌≡◌, ◌+◌, ◌*◌, arith}
use Rattle.tree_hash.specs.TreeHash.{chunk_after}
use Rattle.blake3_lanes.proofs.LaneLemmas.{chunk_more, chunk_last}
use Rattle.blake3_lanes.proofs.eight.chunks.lanes8.Goals as goal

pub each_block-init : goal.each_block-init
unfolding chunk_after
each_block-init c j h = c.start_values-h.ensures j h

pub each_block-preserved : goal.each_block-preserved
each_block-preserved c j h =
    rw (c.compress-h.ensures j (c.args.first + j) h (c.low_words-low.ensures j h) (c.high_words-high.ensures j h), c.columns.ensures j h, c.start_flag.ensures.value, c.each_block.invariant j h)
    (chunk_more c.args.input.now (1024 * j) (c.args.first + j) c.each_block.k (omega arith))

pub returns : goal.returns
returns c j h =
    let done : c.each_block.k ≡ 15 = omega arith in
    rw (c.rows.ensures j h, c.compress.ensures j (c.args.first + j) h (rw c.kept-low.ensures (c.low_words-low.ensures j h)) (c.high_words-high.ensures j h), c.columns-2.ensures j h, c.each_block.invariant j h, done)
    (chunk_last c.args.input.now (1024 * j) (c.args.first + j) (omega arith))
