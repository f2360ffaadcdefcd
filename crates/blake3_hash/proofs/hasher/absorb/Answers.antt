use Rattle.std.proofs.Common.{◌≡◌, ℕ, List, ◌+◌, ◌-◌, ◌*◌, ◌/◌, ◌++◌, length, take, drop, ap, ◌∙◌, arith, add-zero, refl}
use Rattle.std.proofs.lemmas.List.{length-drop, take_rest}
use Rattle.tree_hash.specs.TreeHash.{chunk_value}
use Rattle.blake3_hash.specs.Spine.{Holds, leaves}
use Rattle.blake3_hash.proofs.Held.{IsHeld_tail, leaf_behind, leaves-append}
use Rattle.blake3_hash.proofs.hasher.absorb.Goals as goal

pub loop-k-init : goal.loop-k-init
loop-k-init c = record {
  count = omega arith;
  holds = λ m len h. rw (add-zero, leaves-append c.args.spine.now.count m c.args.bytes.now 0 (omega arith)) h;
}

pub loop-k-preserved : goal.loop-k-preserved
loop-k-preserved c = record {
  count = omega (arith, c.push.ensures.count, c.loop-k.invariant.count);
  holds = λ m len h.
      let k : ℕ = c.loop-k.k in
      let n : ℕ = c.args.spine.now.count in
      let b : List ℕ = c.args.bytes.now in
      let width : 1024 * k + 1024 - 1024 * k ≡ 1024 = omega arith in
      let x : c.flagged_chunk-value.result ≡ chunk_value (take 1024 (drop (1024 * k) b)) (n + k) 0 =
      rw (c.flagged_chunk-value.ensures, width, c.count.ensures.value, c.loop-k.invariant.count) refl in
      rw (leaf_behind n k m b c.flagged_chunk-value.result len x)
      (c.push.ensures.pushed (leaves (n + k) (m ++ b) 0) (c.loop-k.invariant.holds m len h));
}

pub returns-clause-held : goal.returns-clause-held
returns-clause-held c m len h =
    let b : List ℕ = c.args.bytes.now in
    let n : ℕ = c.args.spine.now.count in
    let whole : ℕ = (length b - 1) / 1024 in
    let done : c.loop-k.k ≡ whole = omega arith in
    let count : c.loop-k.spine.count ≡ n + whole = rw done at c.loop-k.invariant.count in
    let held : Holds c.loop-k.spine.levels c.loop-k.spine.count (leaves (n + whole) (m ++ b) 0) = rw done at (c.loop-k.invariant.holds m len h) in
    IsHeld_tail _ n whole _ (length (take (length b - 1024 * whole) (drop (1024 * whole) b))) _ c.args.buffer.now m b _ count len (omega (arith, c.requires.some)) held
    (c.copy_from_slice.ensures.after ∙ take_rest b (1024 * whole)) (ap length (take_rest b (1024 * whole)) ∙ length-drop (1024 * whole) b)
