use Rattle.std.proofs.Common.{◌≡◌, ℕ, List, [], ◌+◌, ◌-◌, ◌*◌, ◌/◌, length, take, drop, slice_index_or, ap, ◌∙◌, arith}
use Rattle.std.proofs.lemmas.List.{length-drop}
use Rattle.tree_hash.specs.TreeHash.{blake3, chunk_value, words_bytes}
use Rattle.blake3_hash.specs.Spine.{Holds, leaves, spine_hash}
use Rattle.blake3_hash.proofs.Leaves.{spine_root-leaves}
use Rattle.blake3_lanes.specs.WideFed.{IsWideFed}
use Rattle.blake3_lanes.proofs.Buffered.{drop_on, last_value, leaves_on, values_before, whole_is}
use Rattle.blake3_lanes.proofs.wide.WideHasher.finish.Goals as goal

pub returns : goal.returns
unfolding blake3 spine_hash
returns c m fed =
    let f : IsWideFed (record { spine = c.self.inside.spine; buffer = c.self.inside.buffer; used = c.self.inside.used }) m = rw (← c.self.view_is) at fed in
    let n : ℕ = c.self.inside.spine.count in
    let used : ℕ = c.self.inside.used in
    let before : ℕ = c.saturating_sub-before.result / 1024 in
    let values : List (List ℕ) = c.buffer_values-values.result in
    let d : List ℕ = drop (1024 * n) m in
    let b : before ≡ (used - 1) / 1024 = omega arith in
    let e : n + before ≡ (length m - 1) / 1024 = whole_is n used before (length m) f.len f.some (omega arith) in
    let all : take (before + 1) values ≡ leaves (before + 1) d n = rw (b, ← f.rest, ← c.self.invariant.0) c.buffer_values-values.ensures in
    let held : Holds c.push_front.new.spine.levels c.push_front.new.spine.count (leaves (n + before) m 0) =
    rw (leaves_on n before m, ← values_before before n d values all) (c.push_front.ensures.pushed (leaves n m 0) f.spine) in
    let last : slice_index_or values before [] ≡ chunk_value (drop (1024 * (n + before)) m) c.push_front.new.spine.count 0 =
    rw (c.push_front.ensures.count, ← drop_on n before m)
    (last_value before n d values (omega arith) (omega (arith, f.len, length-drop (1024 * n) m)) all) in
    c.finish_by.ensures (leaves (n + before) m 0) (drop (1024 * (n + before)) m) held last ∙ ap words_bytes (spine_root-leaves (n + before) m e)
