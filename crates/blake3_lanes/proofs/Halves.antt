-- A round by halves: G on four columns, or diagonals, side by side.
use Rattle.std.proofs.Common.{◌≡◌, ℕ, ◌+◌, List, [], ◌∷◌, length, slice_index, arith, refl}
use Rattle.tree_hash.specs.TreeHash.{half_mix, mix}
use Rattle.blake3_lanes.specs.inside.Lanes.{mix_columns, mix_diagonals}

empty_list : (P : List ℕ → Type 0) → P [] → (xs : List ℕ) → length xs ≡ 0 → P xs
empty_list P p [] l = p
empty_list P p (x ∷ xs) l = absurd (omega arith)

one_more : (P : List ℕ → Type 0) (n : ℕ) → ((x : ℕ) (xs : List ℕ) → length xs ≡ n → P (x ∷ xs)) → (xs : List ℕ) → length xs ≡ n + 1 → P xs
one_more P n p [] l = absurd (omega arith)
one_more P n p (x ∷ xs) l = p x xs (omega arith)

-- what holds of each list of sixteen elements
sixteen : (P : List ℕ → Type 0) → ((v0 v1 v2 v3 v4 v5 v6 v7 v8 v9 v10 v11 v12 v13 v14 v15 : ℕ) → P (v0 ∷ v1 ∷ v2 ∷ v3 ∷ v4 ∷ v5 ∷ v6 ∷ v7 ∷ v8 ∷ v9 ∷ v10 ∷ v11 ∷ v12 ∷ v13 ∷ v14 ∷ v15 ∷ [])) → (xs : List ℕ) → length xs ≡ 16 → P xs
sixteen P p =
    one_more P 15 (λ v0.
    one_more (λ r. P (v0 ∷ r)) 14 (λ v1.
    one_more (λ r. P (v0 ∷ v1 ∷ r)) 13 (λ v2.
    one_more (λ r. P (v0 ∷ v1 ∷ v2 ∷ r)) 12 (λ v3.
    one_more (λ r. P (v0 ∷ v1 ∷ v2 ∷ v3 ∷ r)) 11 (λ v4.
    one_more (λ r. P (v0 ∷ v1 ∷ v2 ∷ v3 ∷ v4 ∷ r)) 10 (λ v5.
    one_more (λ r. P (v0 ∷ v1 ∷ v2 ∷ v3 ∷ v4 ∷ v5 ∷ r)) 9 (λ v6.
    one_more (λ r. P (v0 ∷ v1 ∷ v2 ∷ v3 ∷ v4 ∷ v5 ∷ v6 ∷ r)) 8 (λ v7.
    one_more (λ r. P (v0 ∷ v1 ∷ v2 ∷ v3 ∷ v4 ∷ v5 ∷ v6 ∷ v7 ∷ r)) 7 (λ v8.
    one_more (λ r. P (v0 ∷ v1 ∷ v2 ∷ v3 ∷ v4 ∷ v5 ∷ v6 ∷ v7 ∷ v8 ∷ r)) 6 (λ v9.
    one_more (λ r. P (v0 ∷ v1 ∷ v2 ∷ v3 ∷ v4 ∷ v5 ∷ v6 ∷ v7 ∷ v8 ∷ v9 ∷ r)) 5 (λ v10.
    one_more (λ r. P (v0 ∷ v1 ∷ v2 ∷ v3 ∷ v4 ∷ v5 ∷ v6 ∷ v7 ∷ v8 ∷ v9 ∷ v10 ∷ r)) 4 (λ v11.
    one_more (λ r. P (v0 ∷ v1 ∷ v2 ∷ v3 ∷ v4 ∷ v5 ∷ v6 ∷ v7 ∷ v8 ∷ v9 ∷ v10 ∷ v11 ∷ r)) 3 (λ v12.
    one_more (λ r. P (v0 ∷ v1 ∷ v2 ∷ v3 ∷ v4 ∷ v5 ∷ v6 ∷ v7 ∷ v8 ∷ v9 ∷ v10 ∷ v11 ∷ v12 ∷ r)) 2 (λ v13.
    one_more (λ r. P (v0 ∷ v1 ∷ v2 ∷ v3 ∷ v4 ∷ v5 ∷ v6 ∷ v7 ∷ v8 ∷ v9 ∷ v10 ∷ v11 ∷ v12 ∷ v13 ∷ r)) 1 (λ v14.
    one_more (λ r. P (v0 ∷ v1 ∷ v2 ∷ v3 ∷ v4 ∷ v5 ∷ v6 ∷ v7 ∷ v8 ∷ v9 ∷ v10 ∷ v11 ∷ v12 ∷ v13 ∷ v14 ∷ r)) 0 (λ v15.
    empty_list (λ r. P (v0 ∷ v1 ∷ v2 ∷ v3 ∷ v4 ∷ v5 ∷ v6 ∷ v7 ∷ v8 ∷ v9 ∷ v10 ∷ v11 ∷ v12 ∷ v13 ∷ v14 ∷ v15 ∷ r)) (p v0 v1 v2 v3 v4 v5 v6 v7 v8 v9 v10 v11 v12 v13 v14 v15)))))))))))))))))

pub columns_together : (m v : List ℕ) → length v ≡ 16
    → half_mix (half_mix (half_mix (half_mix (half_mix (half_mix (half_mix (half_mix v 0 4 8 12 (slice_index m 0) 16 12) 1 5 9 13 (slice_index m 2) 16 12) 2 6 10 14 (slice_index m 4) 16 12) 3 7 11 15 (slice_index m 6) 16 12) 0 4 8 12 (slice_index m 1) 8 7) 1 5 9 13 (slice_index m 3) 8 7) 2 6 10 14 (slice_index m 5) 8 7) 3 7 11 15 (slice_index m 7) 8 7 ≡ mix_columns v m
unfolding mix_columns mix half_mix
columns_together m = sixteen _ (λ v0 v1 v2 v3 v4 v5 v6 v7 v8 v9 v10 v11 v12 v13 v14 v15. refl)

pub diagonals_together : (m v : List ℕ) → length v ≡ 16
    → half_mix (half_mix (half_mix (half_mix (half_mix (half_mix (half_mix (half_mix v 0 5 10 15 (slice_index m 8) 16 12) 1 6 11 12 (slice_index m 10) 16 12) 2 7 8 13 (slice_index m 12) 16 12) 3 4 9 14 (slice_index m 14) 16 12) 0 5 10 15 (slice_index m 9) 8 7) 1 6 11 12 (slice_index m 11) 8 7) 2 7 8 13 (slice_index m 13) 8 7) 3 4 9 14 (slice_index m 15) 8 7 ≡ mix_diagonals v m
unfolding mix_diagonals mix half_mix
diagonals_together m = sixteen _ (λ v0 v1 v2 v3 v4 v5 v6 v7 v8 v9 v10 v11 v12 v13 v14 v15. refl)
