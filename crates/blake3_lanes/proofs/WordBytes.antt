-- Words as bytes, and bytes as words.
use Rattle.std.proofs.Common.{◌≡◌, ℕ, ◌+◌, ◌-◌, ◌*◌, ◌/◌, ◌%◌, ◌^◌, ◌<◌, ◌≤◌, List, [], ◌∷◌, ◌++◌, length, slice_index, slice_index_or, take, drop, bit_or, w8, w32, Fits, arith, refl, ap, ◌∙◌, subst, sym}
use Rattle.std.specs.Int.{rotate_right}
use Rattle.std.specs.Int.Bits.{or_shifted_r}
use Rattle.std.specs.Simd.Lanes.{Each1, chunk, digits_l, number_l, pick_l}
use Rattle.std.proofs.lemmas.Simd.{swz_l, Each1-get_or, below_from_Fits, chunk-fits, get_or-chunk, get_or_narrower, get_or_wider, length-chunk}
use Rattle.std.proofs.lemmas.List.{take_all}
use Rattle.tree_hash.specs.TreeHash.{word_at}
use Rattle.blake3_lanes.specs.inside.Lanes.{one_byte, two_bytes}
use Rattle.blake3_lanes.proofs.LaneLemmas.{below_four, four_lanes}

-- ---- a load

pub four_bytes : (ys : List ℕ) → length ys ≡ 4
    → number_l 256 ys ≡ slice_index ys 0 + slice_index ys 1 * 256 + slice_index ys 2 * 65536 + slice_index ys 3 * 16777216
four_bytes = four_lanes _ (λ a b c d. omega arith)

-- word i of sixteen bytes
word_of_block : (xs : List ℕ) (at i : ℕ) → at + 16 ≤ length xs → i < 4 → number_l 256 (chunk (4 * i) 4 (chunk at 16 xs)) ≡ word_at xs (at + 4 * i)
word_of_block xs at i h lt =
    let block : List ℕ = chunk at 16 xs in
    let long : length block ≡ 16 = length-chunk at 16 xs h in
    let p : ℕ → ℕ = λ n. slice_index xs n in
    let a0 : slice_index (chunk (4 * i) 4 block) 0 ≡ slice_index xs (at + 4 * i) =
    get_or-chunk (4 * i) 4 block 0 0 (omega arith) ∙ get_or-chunk at 16 xs (4 * i + 0) 0 (omega arith) ∙ ap p (omega arith) in
    let a1 : slice_index (chunk (4 * i) 4 block) 1 ≡ slice_index xs (at + 4 * i + 1) =
    get_or-chunk (4 * i) 4 block 1 0 (omega arith) ∙ get_or-chunk at 16 xs (4 * i + 1) 0 (omega arith) ∙ ap p (omega arith) in
    let a2 : slice_index (chunk (4 * i) 4 block) 2 ≡ slice_index xs (at + 4 * i + 2) =
    get_or-chunk (4 * i) 4 block 2 0 (omega arith) ∙ get_or-chunk at 16 xs (4 * i + 2) 0 (omega arith) ∙ ap p (omega arith) in
    let a3 : slice_index (chunk (4 * i) 4 block) 3 ≡ slice_index xs (at + 4 * i + 3) =
    get_or-chunk (4 * i) 4 block 3 0 (omega arith) ∙ get_or-chunk at 16 xs (4 * i + 3) 0 (omega arith) ∙ ap p (omega arith) in
    four_bytes (chunk (4 * i) 4 block) (length-chunk (4 * i) 4 block (omega arith)) ∙ rw (a0, a1, a2, a3) refl

pub loaded : (xs : List ℕ) (at : ℕ) → at + 16 ≤ length xs → ((k : ℕ) → Fits w8 (slice_index_or xs k 0)) → (i : ℕ) → i < 4
    → slice_index (digits_l (2 ^ 32) 4 (number_l 256 (chunk 0 16 (take (at + 16 - at) (drop at xs))))) i ≡ word_at xs (at + 4 * i)
loaded xs at h fits i lt =
    let n : at + 16 - at ≡ 16 = omega arith in
    let long : length (chunk at 16 xs) ≡ 16 = length-chunk at 16 xs h in
    let whole : chunk 0 16 (chunk at 16 xs) ≡ chunk at 16 xs = take_all 16 (chunk at 16 xs) (omega arith) in
    ap (λ (k : ℕ). slice_index (digits_l (2 ^ 32) 4 (number_l 256 (chunk 0 16 (take k (drop at xs))))) i) n
    ∙ ap (λ (ys : List ℕ). slice_index (digits_l (2 ^ 32) 4 (number_l 256 ys)) i) whole
    ∙ get_or_wider 256 4 (2 ^ 32) 4 (chunk at 16 xs) i refl (below_from_Fits w8 (chunk at 16 xs) (chunk-fits w8 at 16 xs fits)) lt
    ∙ word_of_block xs at i h lt

-- ---- a rotation by bytes

-- the bytes of a word, the lowest one last, are the word rotated
byte_rotated : (w : ℕ) → w < 2 ^ 32
    → w / 256 ^ 1 % 256 + 256 * (w / 256 ^ 2 % 256 + 256 * (w / 256 ^ 3 % 256 + 256 * (w / 256 ^ 0 % 256 + 256 * 0))) ≡ rotate_right w32 w 8
byte_rotated w h =
    let high : w * 2 ^ 24 % 2 ^ 32 ≡ w % 256 * 2 ^ 24 = omega arith in
    let both : bit_or (w / 2 ^ 8) (w * 2 ^ 24 % 2 ^ 32) ≡ w % 256 * 2 ^ 24 + w / 2 ^ 8 = rw high (or_shifted_r (w % 256) 24 (w / 2 ^ 8) (omega arith)) in
    omega (arith, both)

bytes_rotated : (b0 b1 b2 b3 w : ℕ) → w < 2 ^ 32 → b1 ≡ w / 256 ^ 1 % 256 → b2 ≡ w / 256 ^ 2 % 256 → b3 ≡ w / 256 ^ 3 % 256 → b0 ≡ w / 256 ^ 0 % 256
    → b1 + 256 * (b2 + 256 * (b3 + 256 * (b0 + 256 * 0))) ≡ rotate_right w32 w 8
bytes_rotated b0 b1 b2 b3 w h e1 e2 e3 e0 = rw (e1, e2, e3, e0) (byte_rotated w h)

picked_one : (x : List ℕ) → length x ≡ 4 → Each1 (Fits w32) x → (j : ℕ) → j < 4
    → slice_index (digits_l (2 ^ 32) 4 (number_l 256 (pick_l 0 (digits_l 256 16 (number_l (2 ^ 32) x)) one_byte))) j ≡ rotate_right w32 (slice_index x j) 8
picked_one x len fits =
    let bytes : List ℕ = digits_l 256 16 (number_l (2 ^ 32) x) in
    let picked : List ℕ = pick_l 0 bytes one_byte in
    let words : Each1 (λ w. w < 2 ^ 32) x = below_from_Fits w32 x fits in
    let small : Each1 (λ b. b < 256) picked =
    (omega arith, (omega arith, (omega arith, (omega arith, (omega arith, (omega arith, (omega arith, (omega arith, (omega arith, (omega arith, (omega arith, (omega arith, (omega arith, (omega arith, (omega arith, (omega arith, tt)))))))))))))))) in
    let word : (j : ℕ) → j < 4 → slice_index (digits_l (2 ^ 32) 4 (number_l 256 picked)) j ≡ number_l 256 (chunk (4 * j) 4 picked) =
    λ j lt. get_or_wider 256 4 (2 ^ 32) 4 picked j refl small lt in
    let byte : (j i : ℕ) → j < 4 → i < 4 → slice_index bytes (4 * j + i) ≡ slice_index x j / 256 ^ i % 256 =
    λ j i lj li. get_or_narrower (2 ^ 32) 4 256 16 x j i refl words li (omega arith) in
    let below : (j : ℕ) → j < 4 → slice_index x j < 2 ^ 32 =
    λ j lj. Each1-get_or (λ w. w < 2 ^ 32) x j 0 (omega arith) words in
    let l0 : 0 < 4 = omega arith in
    let l1 : 1 < 4 = omega arith in
    let l2 : 2 < 4 = omega arith in
    let l3 : 3 < 4 = omega arith in
    below_four _
    (word 0 l0 ∙ bytes_rotated _ _ _ _ (slice_index x 0) (below 0 l0) (byte 0 1 l0 l1) (byte 0 2 l0 l2) (byte 0 3 l0 l3) (byte 0 0 l0 l0))
    (word 1 l1 ∙ bytes_rotated _ _ _ _ (slice_index x 1) (below 1 l1) (byte 1 1 l1 l1) (byte 1 2 l1 l2) (byte 1 3 l1 l3) (byte 1 0 l1 l0))
    (word 2 l2 ∙ bytes_rotated _ _ _ _ (slice_index x 2) (below 2 l2) (byte 2 1 l2 l1) (byte 2 2 l2 l2) (byte 2 3 l2 l3) (byte 2 0 l2 l0))
    (word 3 l3 ∙ bytes_rotated _ _ _ _ (slice_index x 3) (below 3 l3) (byte 3 1 l3 l1) (byte 3 2 l3 l2) (byte 3 3 l3 l3) (byte 3 0 l3 l0))

-- the two high bytes of a word, and then the two low ones, are the word rotated
two_bytes_rotated : (w : ℕ) → w < 2 ^ 32
    → w / 256 ^ 2 % 256 + 256 * (w / 256 ^ 3 % 256 + 256 * (w / 256 ^ 0 % 256 + 256 * (w / 256 ^ 1 % 256 + 256 * 0))) ≡ rotate_right w32 w 16
two_bytes_rotated w h =
    let high : w * 2 ^ 16 % 2 ^ 32 ≡ w % 65536 * 2 ^ 16 = omega arith in
    let both : bit_or (w / 2 ^ 16) (w * 2 ^ 16 % 2 ^ 32) ≡ w % 65536 * 2 ^ 16 + w / 2 ^ 16 = rw high (or_shifted_r (w % 65536) 16 (w / 2 ^ 16) (omega arith)) in
    omega (arith, both)

bytes_rotated_two : (b0 b1 b2 b3 w : ℕ) → w < 2 ^ 32 → b2 ≡ w / 256 ^ 2 % 256 → b3 ≡ w / 256 ^ 3 % 256 → b0 ≡ w / 256 ^ 0 % 256 → b1 ≡ w / 256 ^ 1 % 256
    → b2 + 256 * (b3 + 256 * (b0 + 256 * (b1 + 256 * 0))) ≡ rotate_right w32 w 16
bytes_rotated_two b0 b1 b2 b3 w h e2 e3 e0 e1 = rw (e2, e3, e0, e1) (two_bytes_rotated w h)

picked_two : (x : List ℕ) → length x ≡ 4 → Each1 (Fits w32) x → (j : ℕ) → j < 4
    → slice_index (digits_l (2 ^ 32) 4 (number_l 256 (pick_l 0 (digits_l 256 16 (number_l (2 ^ 32) x)) two_bytes))) j ≡ rotate_right w32 (slice_index x j) 16
picked_two x len fits =
    let bytes : List ℕ = digits_l 256 16 (number_l (2 ^ 32) x) in
    let picked : List ℕ = pick_l 0 bytes two_bytes in
    let words : Each1 (λ w. w < 2 ^ 32) x = below_from_Fits w32 x fits in
    let small : Each1 (λ b. b < 256) picked =
    (omega arith, (omega arith, (omega arith, (omega arith, (omega arith, (omega arith, (omega arith, (omega arith, (omega arith, (omega arith, (omega arith, (omega arith, (omega arith, (omega arith, (omega arith, (omega arith, tt)))))))))))))))) in
    let word : (j : ℕ) → j < 4 → slice_index (digits_l (2 ^ 32) 4 (number_l 256 picked)) j ≡ number_l 256 (chunk (4 * j) 4 picked) =
    λ j lt. get_or_wider 256 4 (2 ^ 32) 4 picked j refl small lt in
    let byte : (j i : ℕ) → j < 4 → i < 4 → slice_index bytes (4 * j + i) ≡ slice_index x j / 256 ^ i % 256 =
    λ j i lj li. get_or_narrower (2 ^ 32) 4 256 16 x j i refl words li (omega arith) in
    let below : (j : ℕ) → j < 4 → slice_index x j < 2 ^ 32 =
    λ j lj. Each1-get_or (λ w. w < 2 ^ 32) x j 0 (omega arith) words in
    let l0 : 0 < 4 = omega arith in
    let l1 : 1 < 4 = omega arith in
    let l2 : 2 < 4 = omega arith in
    let l3 : 3 < 4 = omega arith in
    below_four _
    (word 0 l0 ∙ bytes_rotated_two _ _ _ _ (slice_index x 0) (below 0 l0) (byte 0 2 l0 l2) (byte 0 3 l0 l3) (byte 0 0 l0 l0) (byte 0 1 l0 l1))
    (word 1 l1 ∙ bytes_rotated_two _ _ _ _ (slice_index x 1) (below 1 l1) (byte 1 2 l1 l2) (byte 1 3 l1 l3) (byte 1 0 l1 l0) (byte 1 1 l1 l1))
    (word 2 l2 ∙ bytes_rotated_two _ _ _ _ (slice_index x 2) (below 2 l2) (byte 2 2 l2 l2) (byte 2 3 l2 l3) (byte 2 0 l2 l0) (byte 2 1 l2 l1))
    (word 3 l3 ∙ bytes_rotated_two _ _ _ _ (slice_index x 3) (below 3 l3) (byte 3 2 l3 l2) (byte 3 3 l3 l3) (byte 3 0 l3 l0) (byte 3 1 l3 l1))

-- taking bytes by their places rotates each word to the right by k
abbrev Rotates : List ℕ → ℕ → List ℕ → Type 0
Rotates x k places = (j : ℕ) → j < 4
    → slice_index (digits_l (2 ^ 32) 4 (number_l 256 (swz_l w8 16 (digits_l 256 16 (number_l (2 ^ 32) x)) 0 places))) j ≡ rotate_right w32 (slice_index x j) k

pub rotated_one : (x places : List ℕ) → places ≡ one_byte → length x ≡ 4 → Each1 (Fits w32) x → Rotates x 8 places
rotated_one x places e len fits = subst (Rotates x 8) (sym e) (picked_one x len fits)

pub rotated_two : (x places : List ℕ) → places ≡ two_bytes → length x ≡ 4 → Each1 (Fits w32) x → Rotates x 16 places
rotated_two x places e len fits = subst (Rotates x 16) (sym e) (picked_two x len fits)

-- ---- a transposition

-- four vectors, as two steps of interleaving leave them
abbrev pub turned : List ℕ → List ℕ → List ℕ → List ℕ → List (List ℕ)
turned a b c d =
    (slice_index (a ++ c) 0 ∷ slice_index (b ++ d) 0 ∷ slice_index (a ++ c) 4 ∷ slice_index (b ++ d) 4 ∷ [])
    ∷ (slice_index (a ++ c) 1 ∷ slice_index (b ++ d) 1 ∷ slice_index (a ++ c) 5 ∷ slice_index (b ++ d) 5 ∷ [])
    ∷ (slice_index (a ++ c) 2 ∷ slice_index (b ++ d) 2 ∷ slice_index (a ++ c) 6 ∷ slice_index (b ++ d) 6 ∷ [])
    ∷ (slice_index (a ++ c) 3 ∷ slice_index (b ++ d) 3 ∷ slice_index (a ++ c) 7 ∷ slice_index (b ++ d) 7 ∷ []) ∷ []

-- lane j of the four is vector j
pub turned_lane : (a : List ℕ) → length a ≡ 4 → (b : List ℕ) → length b ≡ 4 → (c : List ℕ) → length c ≡ 4 → (d : List ℕ) → length d ≡ 4
    → (j : ℕ) → j < 4 → (i : ℕ) → i < 4 → slice_index (slice_index_or (turned a b c d) i []) j ≡ slice_index (slice_index_or (a ∷ b ∷ c ∷ d ∷ []) j []) i
turned_lane =
    four_lanes _ (λ a0 a1 a2 a3.
    four_lanes _ (λ b0 b1 b2 b3.
    four_lanes _ (λ c0 c1 c2 c3.
    four_lanes _ (λ d0 d1 d2 d3.
    below_four _
    (below_four _ refl refl refl refl)
    (below_four _ refl refl refl refl)
    (below_four _ refl refl refl refl)
    (below_four _ refl refl refl refl)))))
