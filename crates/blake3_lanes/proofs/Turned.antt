-- Words of rows in other places.
use Rattle.std.proofs.Common.{◌≡◌, ℕ, ◌+◌, ◌%◌, ◌<◌, List, [], ◌∷◌, ◌++◌, length, slice_index, refl}
use Rattle.std.specs.Simd.Lanes.{pick_l}
use Rattle.tree_hash.specs.TreeHash.{permute}
use Rattle.blake3_lanes.specs.inside.Rows.{four_rows, message_of}
use Rattle.blake3_lanes.proofs.LaneLemmas.{below_four, four_lanes}

-- the words of two vectors at four places
abbrev picked : List ℕ → List ℕ → (i j k l : ℕ) → List ℕ
picked x y i j k l = pick_l 0 (x ++ y) (i ∷ j ∷ k ∷ l ∷ [])

pub by_one : (x : List ℕ) → length x ≡ 4 → (j : ℕ) → j < 4 → slice_index (picked x x 1 2 3 0) j ≡ slice_index x ((j + 1) % 4)
by_one = four_lanes _ (λ x0 x1 x2 x3. below_four _ refl refl refl refl)

pub by_two : (x : List ℕ) → length x ≡ 4 → (j : ℕ) → j < 4 → slice_index (picked x x 2 3 0 1) j ≡ slice_index x ((j + 2) % 4)
by_two = four_lanes _ (λ x0 x1 x2 x3. below_four _ refl refl refl refl)

pub by_three : (x : List ℕ) → length x ≡ 4 → (j : ℕ) → j < 4 → slice_index (picked x x 3 0 1 2) j ≡ slice_index x ((j + 3) % 4)
by_three = four_lanes _ (λ x0 x1 x2 x3. below_four _ refl refl refl refl)

pub ordered : (a : List ℕ) → length a ≡ 4 → (b : List ℕ) → length b ≡ 4 → (c : List ℕ) → length c ≡ 4 → (d : List ℕ) → length d ≡ 4
    → message_of (picked a b 0 2 4 6 ∷ picked a b 1 3 5 7 ∷ picked c d 6 0 2 4 ∷ picked c d 7 1 3 5 ∷ []) ≡ four_rows (a ∷ b ∷ c ∷ d ∷ [])
ordered =
    four_lanes _ (λ a0 a1 a2 a3.
    four_lanes _ (λ b0 b1 b2 b3.
    four_lanes _ (λ c0 c1 c2 c3.
    four_lanes _ (λ d0 d1 d2 d3. refl))))

-- the rows of a permuted message
abbrev permuted_rows : List ℕ → List ℕ → List ℕ → List ℕ → List (List ℕ)
permuted_rows a b c d =
    let ones : List ℕ = picked (picked d b 0 1 4 5) c 0 1 2 7 in
    let fives : List ℕ = picked c (picked b d 2 6 3 7) 0 4 1 5 in
    picked a b 1 5 7 2 ∷ picked a (picked c d 2 2 7 7) 3 5 0 7 ∷ picked ones ones 0 2 3 1 ∷ picked fives fives 2 3 1 0 ∷ []

pub permuted : (a : List ℕ) → length a ≡ 4 → (b : List ℕ) → length b ≡ 4 → (c : List ℕ) → length c ≡ 4 → (d : List ℕ) → length d ≡ 4
    → message_of (permuted_rows a b c d) ≡ permute (message_of (a ∷ b ∷ c ∷ d ∷ []))
unfolding permute
permuted =
    four_lanes _ (λ a0 a1 a2 a3.
    four_lanes _ (λ b0 b1 b2 b3.
    four_lanes _ (λ c0 c1 c2 c3.
    four_lanes _ (λ d0 d1 d2 d3. refl))))
