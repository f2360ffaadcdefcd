use Rattle.std.proofs.Common.{◌≡◌, ℕ, List, ◌+◌, ◌*◌, take, drop, slice_index, slice_index_or, [], arith, refl, sym, ◌∙◌}
use Rattle.tree_hash.specs.TreeHash.{block_words, word_at}
use Rattle.blake3_lanes.proofs.LaneLemmas.{word_within}
use Rattle.blake3_lanes.proofs.eight.chunks.columns.Goals as goal

pub returns : goal.returns
unfolding block_words
returns c j h =
    let b : List ℕ = c.args.input.now in
    let at : ℕ = c.args.at in
    let o : ℕ = 1024 * j + at in
    let w0 : slice_index (slice_index_or c.half-a.result 0 []) j ≡ word_at (take 64 (drop o b)) 0 =
    c.half-a.ensures j h 0 (omega arith) ∙ sym (word_within b o 0 (1024 * j + (at + 4 * 0)) (omega arith) (omega arith)) in
    let w1 : slice_index (slice_index_or c.half-a.result 1 []) j ≡ word_at (take 64 (drop o b)) 4 =
    c.half-a.ensures j h 1 (omega arith) ∙ sym (word_within b o 4 (1024 * j + (at + 4 * 1)) (omega arith) (omega arith)) in
    let w2 : slice_index (slice_index_or c.half-a.result 2 []) j ≡ word_at (take 64 (drop o b)) 8 =
    c.half-a.ensures j h 2 (omega arith) ∙ sym (word_within b o 8 (1024 * j + (at + 4 * 2)) (omega arith) (omega arith)) in
    let w3 : slice_index (slice_index_or c.half-a.result 3 []) j ≡ word_at (take 64 (drop o b)) 12 =
    c.half-a.ensures j h 3 (omega arith) ∙ sym (word_within b o 12 (1024 * j + (at + 4 * 3)) (omega arith) (omega arith)) in
    let w4 : slice_index (slice_index_or c.half-a.result 4 []) j ≡ word_at (take 64 (drop o b)) 16 =
    c.half-a.ensures j h 4 (omega arith) ∙ sym (word_within b o 16 (1024 * j + (at + 4 * 4)) (omega arith) (omega arith)) in
    let w5 : slice_index (slice_index_or c.half-a.result 5 []) j ≡ word_at (take 64 (drop o b)) 20 =
    c.half-a.ensures j h 5 (omega arith) ∙ sym (word_within b o 20 (1024 * j + (at + 4 * 5)) (omega arith) (omega arith)) in
    let w6 : slice_index (slice_index_or c.half-a.result 6 []) j ≡ word_at (take 64 (drop o b)) 24 =
    c.half-a.ensures j h 6 (omega arith) ∙ sym (word_within b o 24 (1024 * j + (at + 4 * 6)) (omega arith) (omega arith)) in
    let w7 : slice_index (slice_index_or c.half-a.result 7 []) j ≡ word_at (take 64 (drop o b)) 28 =
    c.half-a.ensures j h 7 (omega arith) ∙ sym (word_within b o 28 (1024 * j + (at + 4 * 7)) (omega arith) (omega arith)) in
    let w8 : slice_index (slice_index_or c.half-b.result 0 []) j ≡ word_at (take 64 (drop o b)) 32 =
    c.half-b.ensures j h 0 (omega arith) ∙ sym (word_within b o 32 (1024 * j + ((at + 32) + 4 * 0)) (omega arith) (omega arith)) in
    let w9 : slice_index (slice_index_or c.half-b.result 1 []) j ≡ word_at (take 64 (drop o b)) 36 =
    c.half-b.ensures j h 1 (omega arith) ∙ sym (word_within b o 36 (1024 * j + ((at + 32) + 4 * 1)) (omega arith) (omega arith)) in
    let w10 : slice_index (slice_index_or c.half-b.result 2 []) j ≡ word_at (take 64 (drop o b)) 40 =
    c.half-b.ensures j h 2 (omega arith) ∙ sym (word_within b o 40 (1024 * j + ((at + 32) + 4 * 2)) (omega arith) (omega arith)) in
    let w11 : slice_index (slice_index_or c.half-b.result 3 []) j ≡ word_at (take 64 (drop o b)) 44 =
    c.half-b.ensures j h 3 (omega arith) ∙ sym (word_within b o 44 (1024 * j + ((at + 32) + 4 * 3)) (omega arith) (omega arith)) in
    let w12 : slice_index (slice_index_or c.half-b.result 4 []) j ≡ word_at (take 64 (drop o b)) 48 =
    c.half-b.ensures j h 4 (omega arith) ∙ sym (word_within b o 48 (1024 * j + ((at + 32) + 4 * 4)) (omega arith) (omega arith)) in
    let w13 : slice_index (slice_index_or c.half-b.result 5 []) j ≡ word_at (take 64 (drop o b)) 52 =
    c.half-b.ensures j h 5 (omega arith) ∙ sym (word_within b o 52 (1024 * j + ((at + 32) + 4 * 5)) (omega arith) (omega arith)) in
    let w14 : slice_index (slice_index_or c.half-b.result 6 []) j ≡ word_at (take 64 (drop o b)) 56 =
    c.half-b.ensures j h 6 (omega arith) ∙ sym (word_within b o 56 (1024 * j + ((at + 32) + 4 * 6)) (omega arith) (omega arith)) in
    let w15 : slice_index (slice_index_or c.half-b.result 7 []) j ≡ word_at (take 64 (drop o b)) 60 =
    c.half-b.ensures j h 7 (omega arith) ∙ sym (word_within b o 60 (1024 * j + ((at + 32) + 4 * 7)) (omega arith) (omega arith)) in
    rw (w0, w1, w2, w3, w4, w5, w6, w7, w8, w9, w10, w11, w12, w13, w14, w15) refl
