use Rattle.std.proofs.Common.{◌≡◌, ℕ, List, ◌+◌, ◌*◌, ◌<◌, take, drop, slice_index, slice_index_or, [], arith, refl, sym, ◌∙◌}
use Rattle.tree_hash.specs.TreeHash.{block_words, word_at}
use Rattle.blake3_lanes.proofs.LaneLemmas.{word_within}
use Rattle.blake3_lanes.proofs.chunks.columns.Goals as goal

pub returns : goal.returns
unfolding block_words
returns c j h =
    let b : List ℕ = c.args.input.now in
    let at : ℕ = c.args.at in
    let o : ℕ = 1024 * j + at in
    let l0 : 0 < 4 = omega arith in
    let l1 : 1 < 4 = omega arith in
    let l2 : 2 < 4 = omega arith in
    let l3 : 3 < 4 = omega arith in
    let w0 : slice_index (slice_index_or c.quarter-a.result 0 []) j ≡ word_at (take 64 (drop o b)) 0 =
    c.quarter-a.ensures j h 0 l0 ∙ sym (word_within b o 0 (1024 * j + (at + 4 * 0)) (omega arith) (omega arith)) in
    let w1 : slice_index (slice_index_or c.quarter-a.result 1 []) j ≡ word_at (take 64 (drop o b)) 4 =
    c.quarter-a.ensures j h 1 l1 ∙ sym (word_within b o 4 (1024 * j + (at + 4 * 1)) (omega arith) (omega arith)) in
    let w2 : slice_index (slice_index_or c.quarter-a.result 2 []) j ≡ word_at (take 64 (drop o b)) 8 =
    c.quarter-a.ensures j h 2 l2 ∙ sym (word_within b o 8 (1024 * j + (at + 4 * 2)) (omega arith) (omega arith)) in
    let w3 : slice_index (slice_index_or c.quarter-a.result 3 []) j ≡ word_at (take 64 (drop o b)) 12 =
    c.quarter-a.ensures j h 3 l3 ∙ sym (word_within b o 12 (1024 * j + (at + 4 * 3)) (omega arith) (omega arith)) in
    let w4 : slice_index (slice_index_or c.quarter-b.result 0 []) j ≡ word_at (take 64 (drop o b)) 16 =
    c.quarter-b.ensures j h 0 l0 ∙ sym (word_within b o 16 (1024 * j + ((at + 16) + 4 * 0)) (omega arith) (omega arith)) in
    let w5 : slice_index (slice_index_or c.quarter-b.result 1 []) j ≡ word_at (take 64 (drop o b)) 20 =
    c.quarter-b.ensures j h 1 l1 ∙ sym (word_within b o 20 (1024 * j + ((at + 16) + 4 * 1)) (omega arith) (omega arith)) in
    let w6 : slice_index (slice_index_or c.quarter-b.result 2 []) j ≡ word_at (take 64 (drop o b)) 24 =
    c.quarter-b.ensures j h 2 l2 ∙ sym (word_within b o 24 (1024 * j + ((at + 16) + 4 * 2)) (omega arith) (omega arith)) in
    let w7 : slice_index (slice_index_or c.quarter-b.result 3 []) j ≡ word_at (take 64 (drop o b)) 28 =
    c.quarter-b.ensures j h 3 l3 ∙ sym (word_within b o 28 (1024 * j + ((at + 16) + 4 * 3)) (omega arith) (omega arith)) in
    let w8 : slice_index (slice_index_or c.quarter-c.result 0 []) j ≡ word_at (take 64 (drop o b)) 32 =
    c.quarter-c.ensures j h 0 l0 ∙ sym (word_within b o 32 (1024 * j + ((at + 32) + 4 * 0)) (omega arith) (omega arith)) in
    let w9 : slice_index (slice_index_or c.quarter-c.result 1 []) j ≡ word_at (take 64 (drop o b)) 36 =
    c.quarter-c.ensures j h 1 l1 ∙ sym (word_within b o 36 (1024 * j + ((at + 32) + 4 * 1)) (omega arith) (omega arith)) in
    let w10 : slice_index (slice_index_or c.quarter-c.result 2 []) j ≡ word_at (take 64 (drop o b)) 40 =
    c.quarter-c.ensures j h 2 l2 ∙ sym (word_within b o 40 (1024 * j + ((at + 32) + 4 * 2)) (omega arith) (omega arith)) in
    let w11 : slice_index (slice_index_or c.quarter-c.result 3 []) j ≡ word_at (take 64 (drop o b)) 44 =
    c.quarter-c.ensures j h 3 l3 ∙ sym (word_within b o 44 (1024 * j + ((at + 32) + 4 * 3)) (omega arith) (omega arith)) in
    let w12 : slice_index (slice_index_or c.quarter-d.result 0 []) j ≡ word_at (take 64 (drop o b)) 48 =
    c.quarter-d.ensures j h 0 l0 ∙ sym (word_within b o 48 (1024 * j + ((at + 48) + 4 * 0)) (omega arith) (omega arith)) in
    let w13 : slice_index (slice_index_or c.quarter-d.result 1 []) j ≡ word_at (take 64 (drop o b)) 52 =
    c.quarter-d.ensures j h 1 l1 ∙ sym (word_within b o 52 (1024 * j + ((at + 48) + 4 * 1)) (omega arith) (omega arith)) in
    let w14 : slice_index (slice_index_or c.quarter-d.result 2 []) j ≡ word_at (take 64 (drop o b)) 56 =
    c.quarter-d.ensures j h 2 l2 ∙ sym (word_within b o 56 (1024 * j + ((at + 48) + 4 * 2)) (omega arith) (omega arith)) in
    let w15 : slice_index (slice_index_or c.quarter-d.result 3 []) j ≡ word_at (take 64 (drop o b)) 60 =
    c.quarter-d.ensures j h 3 l3 ∙ sym (word_within b o 60 (1024 * j + ((at + 48) + 4 * 3)) (omega arith) (omega arith)) in
    rw (w0, w1, w2, w3, w4, w5, w6, w7, w8, w9, w10, w11, w12, w13, w14, w15) refl
