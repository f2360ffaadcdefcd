use Rattle.std.proofs.Common.{◌≡◌, ◌+◌, ◌-◌, ◌*◌, ◌/◌, refl, add-one, arith, ◌∙◌}
use Rattle.std.proofs.lemmas.List.{take_rest}
use Rattle.tree_hash.specs.TreeHash.{chunk_after, chunk_value}
use Rattle.blake3_lanes.proofs.chunk.flagged_chunk.Goals as goal

pub each_block-init : goal.each_block-init
unfolding chunk_after
each_block-init c = c.start_value-h.ensures

pub each_block-preserved : goal.each_block-preserved
unfolding chunk_after
each_block-preserved c =
    let width : 64 * c.each_block.k + 64 - 64 * c.each_block.k ≡ 64 = omega arith in
    c.compress-h.ensures ∙ rw (width, c.start_flag.ensures.value, c.each_block.invariant, add-one) refl

pub returns : goal.returns
unfolding chunk_value
returns c =
    let done : c.each_block.k ≡ c.saturating_sub-whole.result / 64 = omega arith in
    c.words.ensures ∙ c.compress.ensures
    ∙ rw (c.padded.ensures, c.start_flag-2.ensures.value, c.each_block.invariant, done, c.saturating_sub-whole.ensures, take_rest) refl
