use Rattle.std.proofs.Common.{◌≡◌, ◌+◌, ◌-◌, ◌*◌, ◌/◌, refl, add-one, arith}
use Rattle.std.proofs.lemmas.List.{take_rest}
use Rattle.tree_hash.specs.TreeHash.{chunk_after, chunk_value}
use Rattle.tree_hash.proofs.block.flagged_chunk.Goals as goal

pub loop-k-init : goal.loop-k-init
unfolding chunk_after
loop-k-init c = refl

pub loop-k-preserved : goal.loop-k-preserved
unfolding chunk_after
loop-k-preserved c =
    let width : 64 * c.loop-k.k + 64 - 64 * c.loop-k.k ≡ 64 = omega arith in
    rw (c.compress_block-h.ensures, width, c.start_flag.ensures.value, c.loop-k.invariant, add-one) refl

pub returns : goal.returns
unfolding chunk_value
returns c =
    let done : c.loop-k.k ≡ c.saturating_sub-whole.result / 64 = omega (arith, c.loop-k.auto.k-end) in
    rw (c.compress_block.ensures, c.padded.ensures, c.start_flag-2.ensures.value, c.loop-k.invariant, done, c.saturating_sub-whole.ensures, take_rest) refl
