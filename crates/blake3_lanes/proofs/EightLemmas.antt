-- What holds of eight lanes.
use Rattle.std.proofs.Common.{◌≡◌, ℕ, zero, suc, ◌<◌, ◌≤◌, ◌+◌, ◌-◌, ◌*◌, ◌/◌, ◌%◌, ◌^◌, List, [], ◌∷◌, ◌++◌, length, slice_index, slice_index_or, take, drop, bit_and, bit_or, bit_xor, w8, w32, Fits, arith, refl, ap, ◌∙◌, subst, sym}
use Rattle.std.specs.Int.{rotate_right}
use Rattle.std.specs.Int.Bits.{and_zero_r, xor_zero_r}
use Rattle.std.specs.Simd.Lanes.{chunk, digits_l, number_l, zip2}
use Rattle.std.proofs.lemmas.Simd.{below_from_Fits, chunk-fits, get_or-chunk, get_or_wider, length-chunk}
use Rattle.std.proofs.lemmas.List.{take_all}
use Rattle.tree_hash.specs.TreeHash.{word_at}
use Rattle.blake3_lanes.specs.inside.Lanes.{no_words8}
use Rattle.blake3_lanes.proofs.WordBytes.{four_bytes}

pub below_eight : (P : ℕ → Type 0) → P 0 → P 1 → P 2 → P 3 → P 4 → P 5 → P 6 → P 7 → (j : ℕ) → j < 8 → P j
below_eight P p0 p1 p2 p3 p4 p5 p6 p7 zero h = p0
below_eight P p0 p1 p2 p3 p4 p5 p6 p7 (suc zero) h = p1
below_eight P p0 p1 p2 p3 p4 p5 p6 p7 (suc (suc zero)) h = p2
below_eight P p0 p1 p2 p3 p4 p5 p6 p7 (suc (suc (suc zero))) h = p3
below_eight P p0 p1 p2 p3 p4 p5 p6 p7 (suc (suc (suc (suc zero)))) h = p4
below_eight P p0 p1 p2 p3 p4 p5 p6 p7 (suc (suc (suc (suc (suc zero))))) h = p5
below_eight P p0 p1 p2 p3 p4 p5 p6 p7 (suc (suc (suc (suc (suc (suc zero)))))) h = p6
below_eight P p0 p1 p2 p3 p4 p5 p6 p7 (suc (suc (suc (suc (suc (suc (suc zero))))))) h = p7
below_eight P p0 p1 p2 p3 p4 p5 p6 p7 (suc (suc (suc (suc (suc (suc (suc (suc n)))))))) h = absurd (omega arith)

one_more : {A : Type 0} (P : List A → Type 0) (n : ℕ) → ((x : A) (xs : List A) → length xs ≡ n → P (x ∷ xs)) → (xs : List A) → length xs ≡ n + 1 → P xs
one_more P n p [] l = absurd (omega arith)
one_more P n p (x ∷ xs) l = p x xs (omega arith)

no_more : {A : Type 0} (P : List A → Type 0) → P [] → (xs : List A) → length xs ≡ 0 → P xs
no_more P p [] l = p
no_more P p (x ∷ xs) l = absurd (omega arith)

-- what holds of each list of eight elements
pub eight_lanes : {A : Type 0} (P : List A → Type 0) → ((a b c d e f g h : A) → P (a ∷ b ∷ c ∷ d ∷ e ∷ f ∷ g ∷ h ∷ [])) → (xs : List A) → length xs ≡ 8 → P xs
eight_lanes P p =
    one_more P 7 (λ a.
    one_more (λ r. P (a ∷ r)) 6 (λ b.
    one_more (λ r. P (a ∷ b ∷ r)) 5 (λ c.
    one_more (λ r. P (a ∷ b ∷ c ∷ r)) 4 (λ d.
    one_more (λ r. P (a ∷ b ∷ c ∷ d ∷ r)) 3 (λ e.
    one_more (λ r. P (a ∷ b ∷ c ∷ d ∷ e ∷ r)) 2 (λ f.
    one_more (λ r. P (a ∷ b ∷ c ∷ d ∷ e ∷ f ∷ r)) 1 (λ g.
    one_more (λ r. P (a ∷ b ∷ c ∷ d ∷ e ∷ f ∷ g ∷ r)) 0 (λ h.
    no_more (λ r. P (a ∷ b ∷ c ∷ d ∷ e ∷ f ∷ g ∷ h ∷ r)) (p a b c d e f g h)))))))))

-- two shifts of each lane and an or are a rotation
abbrev Rotates : ℕ → List ℕ → List ℕ → Type 0
Rotates k a b = (j : ℕ) → j < 8
    → slice_index (zip2 bit_or
    (zip2 (λ x n. x / 2 ^ n) (zip2 bit_xor a b) (k ∷ k ∷ k ∷ k ∷ k ∷ k ∷ k ∷ k ∷ []))
    (zip2 (λ x n. x * 2 ^ n % 2 ^ 32) (zip2 bit_xor a b) ((32 - k) ∷ (32 - k) ∷ (32 - k) ∷ (32 - k) ∷ (32 - k) ∷ (32 - k) ∷ (32 - k) ∷ (32 - k) ∷ []))) j
    ≡ rotate_right w32 (bit_xor (slice_index a j) (slice_index b j)) k

pub shifts_rotate8 : (k : ℕ) → 0 < k → k < 32 → (a : List ℕ) → length a ≡ 8 → (b : List ℕ) → length b ≡ 8 → Rotates k a b
shifts_rotate8 k low high =
    let right : k % 32 ≡ k = omega arith in
    let left : (32 - k) % 32 ≡ 32 - k = omega arith in
    eight_lanes (λ a. (b : List ℕ) → length b ≡ 8 → Rotates k a b) (λ a0 a1 a2 a3 a4 a5 a6 a7.
    eight_lanes (Rotates k (a0 ∷ a1 ∷ a2 ∷ a3 ∷ a4 ∷ a5 ∷ a6 ∷ a7 ∷ [])) (λ b0 b1 b2 b3 b4 b5 b6 b7.
    below_eight _ (rw (right, left) refl) (rw (right, left) refl) (rw (right, left) refl) (rw (right, left) refl) (rw (right, left) refl) (rw (right, left) refl) (rw (right, left) refl) (rw (right, left) refl)))

-- words xor words that met zeros are the words
abbrev Unmoved : List ℕ → List ℕ → List ℕ → Type 0
Unmoved x read none = zip2 bit_xor x (zip2 bit_and read none) ≡ x

pub unmoved8 : (none : List ℕ) → none ≡ no_words8 → (x : List ℕ) → length x ≡ 8 → (read : List ℕ) → length read ≡ 8 → Unmoved x read none
unmoved8 none e =
    eight_lanes (λ x. (read : List ℕ) → length read ≡ 8 → Unmoved x read none) (λ x0 x1 x2 x3 x4 x5 x6 x7.
    eight_lanes (λ read. Unmoved (x0 ∷ x1 ∷ x2 ∷ x3 ∷ x4 ∷ x5 ∷ x6 ∷ x7 ∷ []) read none) (λ r0 r1 r2 r3 r4 r5 r6 r7.
    subst (Unmoved (x0 ∷ x1 ∷ x2 ∷ x3 ∷ x4 ∷ x5 ∷ x6 ∷ x7 ∷ []) (r0 ∷ r1 ∷ r2 ∷ r3 ∷ r4 ∷ r5 ∷ r6 ∷ r7 ∷ [])) (sym e)
    (rw (and_zero_r r0, and_zero_r r1, and_zero_r r2, and_zero_r r3, and_zero_r r4, and_zero_r r5, and_zero_r r6, and_zero_r r7, xor_zero_r x0, xor_zero_r x1, xor_zero_r x2, xor_zero_r x3, xor_zero_r x4, xor_zero_r x5, xor_zero_r x6, xor_zero_r x7) refl)))

-- word i of thirty-two bytes
word_of_block : (xs : List ℕ) (at i : ℕ) → at + 32 ≤ length xs → i < 8 → number_l 256 (chunk (4 * i) 4 (chunk at 32 xs)) ≡ word_at xs (at + 4 * i)
word_of_block xs at i h lt =
    let block : List ℕ = chunk at 32 xs in
    let long : length block ≡ 32 = length-chunk at 32 xs h in
    let p : ℕ → ℕ = λ n. slice_index xs n in
    let a0 : slice_index (chunk (4 * i) 4 block) 0 ≡ slice_index xs (at + 4 * i) =
    get_or-chunk (4 * i) 4 block 0 0 (omega arith) ∙ get_or-chunk at 32 xs (4 * i + 0) 0 (omega arith) ∙ ap p (omega arith) in
    let a1 : slice_index (chunk (4 * i) 4 block) 1 ≡ slice_index xs (at + 4 * i + 1) =
    get_or-chunk (4 * i) 4 block 1 0 (omega arith) ∙ get_or-chunk at 32 xs (4 * i + 1) 0 (omega arith) ∙ ap p (omega arith) in
    let a2 : slice_index (chunk (4 * i) 4 block) 2 ≡ slice_index xs (at + 4 * i + 2) =
    get_or-chunk (4 * i) 4 block 2 0 (omega arith) ∙ get_or-chunk at 32 xs (4 * i + 2) 0 (omega arith) ∙ ap p (omega arith) in
    let a3 : slice_index (chunk (4 * i) 4 block) 3 ≡ slice_index xs (at + 4 * i + 3) =
    get_or-chunk (4 * i) 4 block 3 0 (omega arith) ∙ get_or-chunk at 32 xs (4 * i + 3) 0 (omega arith) ∙ ap p (omega arith) in
    four_bytes (chunk (4 * i) 4 block) (length-chunk (4 * i) 4 block (omega arith)) ∙ rw (a0, a1, a2, a3) refl

pub loaded8 : (xs : List ℕ) (at : ℕ) → at + 32 ≤ length xs → ((k : ℕ) → Fits w8 (slice_index_or xs k 0)) → (i : ℕ) → i < 8
    → slice_index (digits_l (2 ^ 32) 8 (number_l 256 (chunk 0 32 (take (at + 32 - at) (drop at xs))))) i ≡ word_at xs (at + 4 * i)
loaded8 xs at h fits i lt =
    let n : at + 32 - at ≡ 32 = omega arith in
    let long : length (chunk at 32 xs) ≡ 32 = length-chunk at 32 xs h in
    let whole : chunk 0 32 (chunk at 32 xs) ≡ chunk at 32 xs = take_all 32 (chunk at 32 xs) (omega arith) in
    ap (λ (k : ℕ). slice_index (digits_l (2 ^ 32) 8 (number_l 256 (chunk 0 32 (take k (drop at xs))))) i) n
    ∙ ap (λ (ys : List ℕ). slice_index (digits_l (2 ^ 32) 8 (number_l 256 ys)) i) whole
    ∙ get_or_wider 256 4 (2 ^ 32) 8 (chunk at 32 xs) i refl (below_from_Fits w8 (chunk at 32 xs) (chunk-fits w8 at 32 xs fits)) lt
    ∙ word_of_block xs at i h lt

-- ---- a transposition

-- eight vectors, as three steps of interleaving leave them
abbrev turned8 : (a b c d e f g h : List ℕ) → List (List ℕ)
turned8 a b c d e f g h =
    (slice_index (a ++ e) 0 ∷ slice_index (b ++ f) 0 ∷ slice_index (c ++ g) 0 ∷ slice_index (d ++ h) 0 ∷ slice_index (a ++ e) 8 ∷ slice_index (b ++ f) 8 ∷ slice_index (c ++ g) 8 ∷ slice_index (d ++ h) 8 ∷ [])
    ∷ (slice_index (a ++ e) 1 ∷ slice_index (b ++ f) 1 ∷ slice_index (c ++ g) 1 ∷ slice_index (d ++ h) 1 ∷ slice_index (a ++ e) 9 ∷ slice_index (b ++ f) 9 ∷ slice_index (c ++ g) 9 ∷ slice_index (d ++ h) 9 ∷ [])
    ∷ (slice_index (a ++ e) 2 ∷ slice_index (b ++ f) 2 ∷ slice_index (c ++ g) 2 ∷ slice_index (d ++ h) 2 ∷ slice_index (a ++ e) 10 ∷ slice_index (b ++ f) 10 ∷ slice_index (c ++ g) 10 ∷ slice_index (d ++ h) 10 ∷ [])
    ∷ (slice_index (a ++ e) 3 ∷ slice_index (b ++ f) 3 ∷ slice_index (c ++ g) 3 ∷ slice_index (d ++ h) 3 ∷ slice_index (a ++ e) 11 ∷ slice_index (b ++ f) 11 ∷ slice_index (c ++ g) 11 ∷ slice_index (d ++ h) 11 ∷ [])
    ∷ (slice_index (a ++ e) 4 ∷ slice_index (b ++ f) 4 ∷ slice_index (c ++ g) 4 ∷ slice_index (d ++ h) 4 ∷ slice_index (a ++ e) 12 ∷ slice_index (b ++ f) 12 ∷ slice_index (c ++ g) 12 ∷ slice_index (d ++ h) 12 ∷ [])
    ∷ (slice_index (a ++ e) 5 ∷ slice_index (b ++ f) 5 ∷ slice_index (c ++ g) 5 ∷ slice_index (d ++ h) 5 ∷ slice_index (a ++ e) 13 ∷ slice_index (b ++ f) 13 ∷ slice_index (c ++ g) 13 ∷ slice_index (d ++ h) 13 ∷ [])
    ∷ (slice_index (a ++ e) 6 ∷ slice_index (b ++ f) 6 ∷ slice_index (c ++ g) 6 ∷ slice_index (d ++ h) 6 ∷ slice_index (a ++ e) 14 ∷ slice_index (b ++ f) 14 ∷ slice_index (c ++ g) 14 ∷ slice_index (d ++ h) 14 ∷ [])
    ∷ (slice_index (a ++ e) 7 ∷ slice_index (b ++ f) 7 ∷ slice_index (c ++ g) 7 ∷ slice_index (d ++ h) 7 ∷ slice_index (a ++ e) 15 ∷ slice_index (b ++ f) 15 ∷ slice_index (c ++ g) 15 ∷ slice_index (d ++ h) 15 ∷ []) ∷ []

-- lane j of the eight is vector j
pub turned_lane8 : (a : List ℕ) → length a ≡ 8 → (b : List ℕ) → length b ≡ 8 → (c : List ℕ) → length c ≡ 8 → (d : List ℕ) → length d ≡ 8
    → (e : List ℕ) → length e ≡ 8 → (f : List ℕ) → length f ≡ 8 → (g : List ℕ) → length g ≡ 8 → (h : List ℕ) → length h ≡ 8
    → (j : ℕ) → j < 8 → (i : ℕ) → i < 8
    → slice_index (slice_index_or (turned8 a b c d e f g h) i []) j ≡ slice_index (slice_index_or (a ∷ b ∷ c ∷ d ∷ e ∷ f ∷ g ∷ h ∷ []) j []) i
turned_lane8 =
    eight_lanes _ (λ a0 a1 a2 a3 a4 a5 a6 a7.
    eight_lanes _ (λ b0 b1 b2 b3 b4 b5 b6 b7.
    eight_lanes _ (λ c0 c1 c2 c3 c4 c5 c6 c7.
    eight_lanes _ (λ d0 d1 d2 d3 d4 d5 d6 d7.
    eight_lanes _ (λ e0 e1 e2 e3 e4 e5 e6 e7.
    eight_lanes _ (λ f0 f1 f2 f3 f4 f5 f6 f7.
    eight_lanes _ (λ g0 g1 g2 g3 g4 g5 g6 g7.
    eight_lanes _ (λ h0 h1 h2 h3 h4 h5 h6 h7.
    below_eight _
    (below_eight _ refl refl refl refl refl refl refl refl)
    (below_eight _ refl refl refl refl refl refl refl refl)
    (below_eight _ refl refl refl refl refl refl refl refl)
    (below_eight _ refl refl refl refl refl refl refl refl)
    (below_eight _ refl refl refl refl refl refl refl refl)
    (below_eight _ refl refl refl refl refl refl refl refl)
    (below_eight _ refl refl refl refl refl refl refl refl)
    (below_eight _ refl refl refl refl refl refl refl refl)))))))))
