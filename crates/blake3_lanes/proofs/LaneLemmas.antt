-- What holds of a lane.
use Rattle.std.proofs.Common.{add-one, ◌≡◌, ℕ, zero, suc, ◌<◌, ◌≤◌, ◌+◌, ◌-◌, ◌*◌, ◌/◌, ◌%◌, ◌^◌, List, [], ◌∷◌, length, ◌++◌, slice_index, slice_index_or, slice_set, take, drop, bit_and, bit_or, bit_xor, w32, arith, refl, ap, ◌∙◌, subst, sym}
use Rattle.std.specs.Int.{rotate_right}
use Rattle.std.specs.Int.Bits.{and_zero_r, xor_zero_r}
use Rattle.std.specs.Simd.Lanes.{zip2}
use Rattle.std.proofs.lemmas.Simd.{get_or-chunk}
use Rattle.std.proofs.lemmas.List.{append-nil, drop-drop, drop-take, length-drop, length-take-le, take-take, take_all}
use Rattle.tree_hash.specs.TreeHash.{block_words, chunk_after, chunk_value, compress_words, start_flag, word_at}
use Rattle.blake3_lanes.specs.inside.Lanes.{lane, no_words}

pub lane_set : (j : ℕ) (v : List (List ℕ)) (i : ℕ) (x : List ℕ) (y : ℕ) → slice_index x j ≡ y → lane j (slice_set v i x) ≡ slice_set (lane j v) i y
lane_set j [] i x y e = refl
lane_set j (w ∷ v) zero x y e = rw e refl
lane_set j (w ∷ v) (suc i) x y e = ap (λ (r : List ℕ). slice_index w j ∷ r) (lane_set j v i x y e)

pub lane_get : (j : ℕ) (v : List (List ℕ)) (i : ℕ) → slice_index (slice_index_or v i []) j ≡ slice_index (lane j v) i
lane_get j [] i = refl
lane_get j (w ∷ v) zero = refl
lane_get j (w ∷ v) (suc i) = lane_get j v i

pub below_four : (P : ℕ → Type 0) → P 0 → P 1 → P 2 → P 3 → (j : ℕ) → j < 4 → P j
below_four P p0 p1 p2 p3 zero h = p0
below_four P p0 p1 p2 p3 (suc zero) h = p1
below_four P p0 p1 p2 p3 (suc (suc zero)) h = p2
below_four P p0 p1 p2 p3 (suc (suc (suc zero))) h = p3
below_four P p0 p1 p2 p3 (suc (suc (suc (suc n)))) h = absurd (omega arith)

-- what holds of each list of four elements
pub four_lanes : (P : List ℕ → Type 0) → ((a b c d : ℕ) → P (a ∷ b ∷ c ∷ d ∷ [])) → (xs : List ℕ) → length xs ≡ 4 → P xs
four_lanes P p (a ∷ b ∷ c ∷ d ∷ []) l = p a b c d
four_lanes P p [] l = absurd (omega arith)
four_lanes P p (a ∷ []) l = absurd (omega arith)
four_lanes P p (a ∷ b ∷ []) l = absurd (omega arith)
four_lanes P p (a ∷ b ∷ c ∷ []) l = absurd (omega arith)
four_lanes P p (a ∷ b ∷ c ∷ d ∷ e ∷ xs) l = absurd (omega arith)

-- two shifts of each lane and an or are a rotation
abbrev Rotates : ℕ → List ℕ → List ℕ → Type 0
Rotates k a b = (j : ℕ) → j < 4
    → slice_index (zip2 bit_or
    (zip2 (λ x n. x / 2 ^ n) (zip2 bit_xor a b) (k ∷ k ∷ k ∷ k ∷ []))
    (zip2 (λ x n. x * 2 ^ n % 2 ^ 32) (zip2 bit_xor a b) ((32 - k) ∷ (32 - k) ∷ (32 - k) ∷ (32 - k) ∷ []))) j
    ≡ rotate_right w32 (bit_xor (slice_index a j) (slice_index b j)) k

pub shifts_rotate : (k : ℕ) → 0 < k → k < 32 → (a : List ℕ) → length a ≡ 4 → (b : List ℕ) → length b ≡ 4 → Rotates k a b
shifts_rotate k low high =
    let right : k % 32 ≡ k = omega arith in
    let left : (32 - k) % 32 ≡ 32 - k = omega arith in
    four_lanes (λ a. (b : List ℕ) → length b ≡ 4 → Rotates k a b) (λ a0 a1 a2 a3.
    four_lanes (Rotates k (a0 ∷ a1 ∷ a2 ∷ a3 ∷ [])) (λ b0 b1 b2 b3.
    below_four _ (rw (right, left) refl) (rw (right, left) refl) (rw (right, left) refl) (rw (right, left) refl)))

-- words xor words that met zeros are the words
abbrev Unmoved : List ℕ → List ℕ → List ℕ → Type 0
Unmoved x read none = zip2 bit_xor x (zip2 bit_and read none) ≡ x

pub unmoved : (none : List ℕ) → none ≡ no_words → (x : List ℕ) → length x ≡ 4 → (read : List ℕ) → length read ≡ 4 → Unmoved x read none
unmoved none e =
    four_lanes (λ x. (read : List ℕ) → length read ≡ 4 → Unmoved x read none) (λ x0 x1 x2 x3.
    four_lanes (λ read. Unmoved (x0 ∷ x1 ∷ x2 ∷ x3 ∷ []) read none) (λ r0 r1 r2 r3.
    subst (Unmoved (x0 ∷ x1 ∷ x2 ∷ x3 ∷ []) (r0 ∷ r1 ∷ r2 ∷ r3 ∷ [])) (sym e)
    (rw (and_zero_r r0, and_zero_r r1, and_zero_r r2, and_zero_r r3, xor_zero_r x0, xor_zero_r x1, xor_zero_r x2, xor_zero_r x3) refl)))

pub word_moved : (b : List ℕ) (i k x : ℕ) → x ≡ word_at b i → i ≡ k → x ≡ word_at b k
word_moved b i k x e same = e ∙ ap (λ (n : ℕ). word_at b n) same

-- a word of a block is a word of what the block lies in
pub word_within : (b : List ℕ) (o i k : ℕ) → i + 4 ≤ 64 → k ≡ o + i → word_at (take 64 (drop o b)) i ≡ word_at b k
word_within b o i k h e =
    let p : ℕ → ℕ = λ n. slice_index b n in
    let a0 : slice_index (take 64 (drop o b)) i ≡ slice_index b k = get_or-chunk o 64 b i 0 (omega arith) ∙ ap p (omega arith) in
    let a1 : slice_index (take 64 (drop o b)) (i + 1) ≡ slice_index b (k + 1) = get_or-chunk o 64 b (i + 1) 0 (omega arith) ∙ ap p (omega arith) in
    let a2 : slice_index (take 64 (drop o b)) (i + 2) ≡ slice_index b (k + 2) = get_or-chunk o 64 b (i + 2) 0 (omega arith) ∙ ap p (omega arith) in
    let a3 : slice_index (take 64 (drop o b)) (i + 3) ≡ slice_index b (k + 3) = get_or-chunk o 64 b (i + 3) 0 (omega arith) ∙ ap p (omega arith) in
    rw (a0, a1, a2, a3) refl

-- four rows, one by one, and four more
pub rows_beside : (front back : List (List ℕ)) → length front ≡ 4 → length back ≡ 4
    → slice_index_or front 0 [] ∷ slice_index_or front 1 [] ∷ slice_index_or front 2 [] ∷ slice_index_or front 3 []
    ∷ slice_index_or back 0 [] ∷ slice_index_or back 1 [] ∷ slice_index_or back 2 [] ∷ slice_index_or back 3 [] ∷ [] ≡ front ++ back
rows_beside (a ∷ b ∷ c ∷ d ∷ []) (e ∷ f ∷ g ∷ h ∷ []) lf lb = refl
rows_beside [] back lf lb = absurd (omega arith)
rows_beside (a ∷ []) back lf lb = absurd (omega arith)
rows_beside (a ∷ b ∷ []) back lf lb = absurd (omega arith)
rows_beside (a ∷ b ∷ c ∷ []) back lf lb = absurd (omega arith)
rows_beside (a ∷ b ∷ c ∷ d ∷ x ∷ front) back lf lb = absurd (omega arith)
rows_beside (a ∷ b ∷ c ∷ d ∷ []) [] lf lb = absurd (omega arith)
rows_beside (a ∷ b ∷ c ∷ d ∷ []) (e ∷ []) lf lb = absurd (omega arith)
rows_beside (a ∷ b ∷ c ∷ d ∷ []) (e ∷ f ∷ []) lf lb = absurd (omega arith)
rows_beside (a ∷ b ∷ c ∷ d ∷ []) (e ∷ f ∷ g ∷ []) lf lb = absurd (omega arith)
rows_beside (a ∷ b ∷ c ∷ d ∷ []) (e ∷ f ∷ g ∷ h ∷ x ∷ back) lf lb = absurd (omega arith)

-- the words of lane j of eight vectors, one by one
pub lane_eight : (j : ℕ) (v : List (List ℕ)) → length v ≡ 8
    → slice_index (slice_index_or v 0 []) j ∷ slice_index (slice_index_or v 1 []) j ∷ slice_index (slice_index_or v 2 []) j
    ∷ slice_index (slice_index_or v 3 []) j ∷ slice_index (slice_index_or v 4 []) j ∷ slice_index (slice_index_or v 5 []) j
    ∷ slice_index (slice_index_or v 6 []) j ∷ slice_index (slice_index_or v 7 []) j ∷ [] ≡ lane j v
lane_eight j (a ∷ b ∷ c ∷ d ∷ e ∷ f ∷ g ∷ h ∷ []) l = refl
lane_eight j [] l = absurd (omega arith)
lane_eight j (a ∷ []) l = absurd (omega arith)
lane_eight j (a ∷ b ∷ []) l = absurd (omega arith)
lane_eight j (a ∷ b ∷ c ∷ []) l = absurd (omega arith)
lane_eight j (a ∷ b ∷ c ∷ d ∷ []) l = absurd (omega arith)
lane_eight j (a ∷ b ∷ c ∷ d ∷ e ∷ []) l = absurd (omega arith)
lane_eight j (a ∷ b ∷ c ∷ d ∷ e ∷ f ∷ []) l = absurd (omega arith)
lane_eight j (a ∷ b ∷ c ∷ d ∷ e ∷ f ∷ g ∷ []) l = absurd (omega arith)
lane_eight j (a ∷ b ∷ c ∷ d ∷ e ∷ f ∷ g ∷ h ∷ i ∷ xs) l = absurd (omega arith)

-- block k of chunk j of a list
pub block_of : (b : List ℕ) (o at : ℕ) → at + 64 ≤ 1024 → take 64 (drop at (take 1024 (drop o b))) ≡ take 64 (drop (o + at) b)
block_of b o at h =
    let n : 1024 ≡ at + (1024 - at) = omega arith in
    let m : 64 ≤ 1024 - at = omega arith in
    let e : drop at (take 1024 (drop o b)) ≡ take (1024 - at) (drop at (drop o b)) =
    ap (λ (k : ℕ). drop at (take k (drop o b))) n ∙ drop-take at (1024 - at) (drop o b) in
    rw (e, take-take 64 (1024 - at) (drop at (drop o b)) m, drop-drop at o b) refl

-- one block more of a chunk
pub chunk_more : (b : List ℕ) (o n k : ℕ) → k < 15
    → compress_words (chunk_after (take 1024 (drop o b)) n k) (block_words (take 64 (drop (o + 64 * k) b))) n 64 (start_flag k)
    ≡ chunk_after (take 1024 (drop o b)) n (k + 1)
unfolding chunk_after
chunk_more b o n k h = rw (add-one, block_of b o (64 * k) (omega arith)) refl

-- the last block of a whole chunk
pub chunk_last : (b : List ℕ) (o n : ℕ) → o + 1024 ≤ length b
    → compress_words (chunk_after (take 1024 (drop o b)) n 15) (block_words (take 64 (drop (o + 960) b))) n 64 2 ≡ chunk_value (take 1024 (drop o b)) n 0
unfolding chunk_value
chunk_last b o n h =
    let len : length (take 1024 (drop o b)) ≡ 1024 = length-take-le 1024 (drop o b) (omega (arith, length-drop o b)) in
    let rest : length (drop 960 (take 1024 (drop o b))) ≡ 64 = length-drop 960 (take 1024 (drop o b)) ∙ ap (λ (k : ℕ). k - 960) len in
    let block : drop 960 (take 1024 (drop o b)) ≡ take 64 (drop (o + 960) b) =
    sym (take_all 64 (drop 960 (take 1024 (drop o b))) (omega arith)) ∙ block_of b o 960 (omega arith) in
    rw (len, rest, block, append-nil) refl

-- the words of lane j of eight vectors, and of eight more
pub lanes_beside : (j : ℕ) (a b : List (List ℕ)) (x y : List ℕ) → length a ≡ 8 → length b ≡ 8 → lane j a ≡ x → lane j b ≡ y
    → slice_index (slice_index_or a 0 []) j ∷ slice_index (slice_index_or a 1 []) j ∷ slice_index (slice_index_or a 2 []) j
    ∷ slice_index (slice_index_or a 3 []) j ∷ slice_index (slice_index_or a 4 []) j ∷ slice_index (slice_index_or a 5 []) j
    ∷ slice_index (slice_index_or a 6 []) j ∷ slice_index (slice_index_or a 7 []) j
    ∷ slice_index (slice_index_or b 0 []) j ∷ slice_index (slice_index_or b 1 []) j ∷ slice_index (slice_index_or b 2 []) j
    ∷ slice_index (slice_index_or b 3 []) j ∷ slice_index (slice_index_or b 4 []) j ∷ slice_index (slice_index_or b 5 []) j
    ∷ slice_index (slice_index_or b 6 []) j ∷ slice_index (slice_index_or b 7 []) j ∷ [] ≡ x ++ y
lanes_beside j a b x y la lb ea eb = rw (← ea, ← eb, ← lane_eight j a la, ← lane_eight j b lb) refl
