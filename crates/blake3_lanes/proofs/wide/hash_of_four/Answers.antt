use Rattle.std.proofs.Common.{◌≡◌, ℕ, List, [], ◌+◌, ◌-◌, ◌*◌, ◌/◌, length, drop, slice_index_or, ap, ◌∙◌, arith}
use Rattle.tree_hash.specs.TreeHash.{blake3, chunk_value, words_bytes}
use Rattle.blake3_hash.specs.Spine.{Holds, leaves, spine_hash}
use Rattle.blake3_hash.proofs.Leaves.{spine_root-leaves}
use Rattle.blake3_lanes.proofs.Buffered.{last_value, values_before}
use Rattle.blake3_lanes.proofs.wide.hash_of_four.Goals as goal

pub returns : goal.returns
unfolding blake3 spine_hash
returns c =
    let b : List ℕ = c.args.bytes.now in
    let before : ℕ = (length b - 1) / 1024 in
    let values : List (List ℕ) = c.four_values-values.result in
    let none : 0 + before ≡ before = omega arith in
    let count : c.push_front.new.spine.count ≡ before = omega (arith, c.push_front.ensures.count, c.new-spine.ensures.count) in
    let held : Holds c.push_front.new.spine.levels c.push_front.new.spine.count (leaves before b 0) =
    rw (← values_before before 0 b values c.four_values-values.ensures) (c.push_front.ensures.pushed [] c.new-spine.ensures.pushed) in
    let last : slice_index_or values before [] ≡ chunk_value (drop (1024 * before) b) c.push_front.new.spine.count 0 =
    rw count (rw none at (last_value before 0 b values (omega arith) (omega arith) c.four_values-values.ensures)) in
    c.finish_by.ensures (leaves before b 0) (drop (1024 * before) b) held last ∙ ap words_bytes (spine_root-leaves before b (omega arith))
