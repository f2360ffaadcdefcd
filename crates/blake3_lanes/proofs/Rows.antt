-- A round on four rows: G on the columns, and on the columns of rows that were turned.
use Rattle.std.proofs.Common.{◌≡◌, ℕ, ◌<◌, List, [], ◌∷◌, length, slice_index, arith, refl, ap, ◌∙◌}
use Rattle.tree_hash.specs.TreeHash.{half_mix, mix}
use Rattle.blake3_lanes.specs.inside.Lanes.{lane, mix_columns, mix_diagonals}
use Rattle.blake3_lanes.specs.inside.Rows.{diagonal, four_rows, message_of, row_at}
use Rattle.blake3_lanes.proofs.LaneLemmas.{lane_get}

-- the words of lane j of four vectors, one by one
pub lane_four : (j : ℕ) (v : List (List ℕ)) → length v ≡ 4
    → lane j v ≡ slice_index (row_at v 0) j ∷ slice_index (row_at v 1) j ∷ slice_index (row_at v 2) j ∷ slice_index (row_at v 3) j ∷ []
lane_four j (a ∷ b ∷ c ∷ d ∷ []) l = refl
lane_four j [] l = absurd (omega arith)
lane_four j (a ∷ []) l = absurd (omega arith)
lane_four j (a ∷ b ∷ []) l = absurd (omega arith)
lane_four j (a ∷ b ∷ c ∷ []) l = absurd (omega arith)
lane_four j (a ∷ b ∷ c ∷ d ∷ e ∷ xs) l = absurd (omega arith)

-- sixteen words by the columns that they stand in
abbrev by_columns : (c0 c1 c2 c3 : List ℕ) → List ℕ
by_columns c0 c1 c2 c3 =
    slice_index c0 0 ∷ slice_index c1 0 ∷ slice_index c2 0 ∷ slice_index c3 0
    ∷ slice_index c0 1 ∷ slice_index c1 1 ∷ slice_index c2 1 ∷ slice_index c3 1
    ∷ slice_index c0 2 ∷ slice_index c1 2 ∷ slice_index c2 2 ∷ slice_index c3 2
    ∷ slice_index c0 3 ∷ slice_index c1 3 ∷ slice_index c2 3 ∷ slice_index c3 3 ∷ []

in_columns : (v : List (List ℕ)) → four_rows v ≡ by_columns (lane 0 v) (lane 1 v) (lane 2 v) (lane 3 v)
in_columns v = simp lane_get

-- and by their diagonals
abbrev by_diagonals : (d0 d1 d2 d3 : List ℕ) → List ℕ
by_diagonals d0 d1 d2 d3 =
    slice_index d1 0 ∷ slice_index d2 0 ∷ slice_index d3 0 ∷ slice_index d0 0
    ∷ slice_index d0 1 ∷ slice_index d1 1 ∷ slice_index d2 1 ∷ slice_index d3 1
    ∷ slice_index d3 2 ∷ slice_index d0 2 ∷ slice_index d1 2 ∷ slice_index d2 2
    ∷ slice_index d2 3 ∷ slice_index d3 3 ∷ slice_index d0 3 ∷ slice_index d1 3 ∷ []

in_diagonals : (v : List (List ℕ)) → four_rows v ≡ by_diagonals (diagonal 0 v) (diagonal 1 v) (diagonal 2 v) (diagonal 3 v)
in_diagonals v = refl

-- G on each column
abbrev pub Mixed : List (List ℕ) → List (List ℕ) → List ℕ → List ℕ → Type 0
Mixed v w x y = (j : ℕ) → j < 4 → lane j w ≡ mix (lane j v) 0 1 2 3 (slice_index x j) (slice_index y j)

pub columns_mixed : (v w m : List (List ℕ)) → length v ≡ 4 → Mixed v w (row_at m 0) (row_at m 1)
    → four_rows w ≡ mix_columns (four_rows v) (message_of m)
unfolding mix_columns mix half_mix
columns_mixed v w m len h =
    in_columns w
    ∙ rw (h 0 (omega arith), h 1 (omega arith), h 2 (omega arith), h 3 (omega arith), lane_four 0 v len, lane_four 1 v len, lane_four 2 v len, lane_four 3 v len) refl

same_diagonals : (d0 d1 d2 d3 e0 e1 e2 e3 : List ℕ) → d0 ≡ e0 → d1 ≡ e1 → d2 ≡ e2 → d3 ≡ e3 → by_diagonals d0 d1 d2 d3 ≡ by_diagonals e0 e1 e2 e3
same_diagonals d0 d1 d2 d3 e0 e1 e2 e3 s0 s1 s2 s3 = rw (s0, s1, s2, s3) refl

-- G on each diagonal
abbrev mixed_diagonal : ℕ → List (List ℕ) → List (List ℕ) → List ℕ
mixed_diagonal j v m = mix (diagonal j v) 0 1 2 3 (slice_index (row_at m 2) j) (slice_index (row_at m 3) j)

in_mixed_diagonals : (v m : List (List ℕ))
    → by_diagonals (mixed_diagonal 0 v m) (mixed_diagonal 1 v m) (mixed_diagonal 2 v m) (mixed_diagonal 3 v m) ≡ mix_diagonals (four_rows v) (message_of m)
unfolding mix_diagonals mix half_mix
in_mixed_diagonals v m = refl

pub diagonals_mixed : (v turned w back m : List (List ℕ)) → ((j : ℕ) → j < 4 → lane j turned ≡ diagonal j v)
    → Mixed turned w (row_at m 2) (row_at m 3) → ((j : ℕ) → j < 4 → diagonal j back ≡ lane j w)
    → four_rows back ≡ mix_diagonals (four_rows v) (message_of m)
diagonals_mixed v turned w back m t h b =
    let mixed : (j : ℕ) → j < 4 → diagonal j back ≡ mixed_diagonal j v m =
    λ j l. b j l ∙ h j l ∙ ap (λ (r : List ℕ). mix r 0 1 2 3 (slice_index (row_at m 2) j) (slice_index (row_at m 3) j)) (t j l) in
    in_diagonals back
    ∙ same_diagonals _ _ _ _ _ _ _ _ (mixed 0 (omega arith)) (mixed 1 (omega arith)) (mixed 2 (omega arith)) (mixed 3 (omega arith))
    ∙ in_mixed_diagonals v m
