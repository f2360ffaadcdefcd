use Rattle.std.proofs.Common.{◌≡◌, ℕ, ◌+◌, ◌-◌, ◌*◌, ◌/◌, List, length, take, drop, ap, ◌∙◌, arith}
use Rattle.std.proofs.lemmas.List.{take_rest}
use Rattle.tree_hash.specs.TreeHash.{blake3, chunk_value, words_bytes}
use Rattle.blake3_hash.specs.Spine.{Holds, leaves, spine_hash, spine_root}
use Rattle.blake3_hash.proofs.Leaves.{leaves_next, spine_root-leaves}
use Rattle.blake3_hash.proofs.spine.hash.Goals as goal

pub loop-k-init : goal.loop-k-init
unfolding leaves
loop-k-init c = (c.new-spine.ensures.count, c.new-spine.ensures.pushed)

pub loop-k-preserved : goal.loop-k-preserved
loop-k-preserved c =
    let k : ℕ = c.loop-k.k in
    let width : 1024 * k + 1024 - 1024 * k ≡ 1024 = omega arith in
    let x : c.flagged_chunk.result ≡ chunk_value (take 1024 (drop (1024 * k) c.args.bytes.now)) k 0 = rw width at c.flagged_chunk.ensures in
    (omega arith, rw (leaves_next k c.args.bytes.now c.flagged_chunk.result x) (c.push.ensures.pushed (leaves k c.args.bytes.now 0) c.loop-k.invariant.1))

pub returns : goal.returns
unfolding blake3 spine_hash
returns c =
    let k : ℕ = c.loop-k.k in
    let b : List ℕ = c.args.bytes.now in
    let whole : ℕ = c.saturating_sub-whole.result / 1024 in
    let e : whole ≡ (length b - 1) / 1024 = omega arith in
    let same : k ≡ whole = omega arith in
    let held : Holds c.loop-k.spine.levels c.loop-k.spine.count (leaves whole b 0) = rw same at c.loop-k.invariant.1 in
    c.finish.ensures (leaves whole b 0) held
    ∙ ap (λ (r : List ℕ). words_bytes (spine_root (leaves whole b 0) r)) (take_rest b (1024 * whole))
    ∙ ap words_bytes (spine_root-leaves whole b e)
