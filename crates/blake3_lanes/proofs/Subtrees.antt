-- The trees over two values, four and eight.
use Rattle.std.proofs.Common.{◌≡◌, ℕ, List, [], ◌∷◌, length, slice_index_or, refl, arith}
use Rattle.tree_hash.specs.TreeHash.{parent_value}
use Rattle.blake3_hash.specs.Spine.{joined}

pub joined_halves : (v : List (List ℕ)) → length v ≡ 2 → joined 1 v 0 ≡ parent_value (slice_index_or v 0 []) (slice_index_or v 1 []) 0
unfolding joined
joined_halves (a ∷ b ∷ []) l = refl
joined_halves [] l = absurd (omega arith)
joined_halves (a ∷ []) l = absurd (omega arith)
joined_halves (a ∷ b ∷ c ∷ v) l = absurd (omega arith)

pub joined_quarters : (v : List (List ℕ)) → length v ≡ 4
    → joined 2 v 0 ≡ parent_value (parent_value (slice_index_or v 0 []) (slice_index_or v 1 []) 0) (parent_value (slice_index_or v 2 []) (slice_index_or v 3 []) 0) 0
unfolding joined
joined_quarters (a ∷ b ∷ c ∷ d ∷ []) l = refl
joined_quarters [] l = absurd (omega arith)
joined_quarters (a ∷ []) l = absurd (omega arith)
joined_quarters (a ∷ b ∷ []) l = absurd (omega arith)
joined_quarters (a ∷ b ∷ c ∷ []) l = absurd (omega arith)
joined_quarters (a ∷ b ∷ c ∷ d ∷ e ∷ v) l = absurd (omega arith)

pub joined_eight : (v : List (List ℕ)) → length v ≡ 8
    → joined 3 v 0 ≡ parent_value
    (parent_value (parent_value (slice_index_or v 0 []) (slice_index_or v 1 []) 0) (parent_value (slice_index_or v 2 []) (slice_index_or v 3 []) 0) 0)
    (parent_value (parent_value (slice_index_or v 4 []) (slice_index_or v 5 []) 0) (parent_value (slice_index_or v 6 []) (slice_index_or v 7 []) 0) 0) 0
unfolding joined
joined_eight (a ∷ b ∷ c ∷ d ∷ e ∷ f ∷ g ∷ h ∷ []) l = refl
joined_eight [] l = absurd (omega arith)
joined_eight (a ∷ []) l = absurd (omega arith)
joined_eight (a ∷ b ∷ []) l = absurd (omega arith)
joined_eight (a ∷ b ∷ c ∷ []) l = absurd (omega arith)
joined_eight (a ∷ b ∷ c ∷ d ∷ []) l = absurd (omega arith)
joined_eight (a ∷ b ∷ c ∷ d ∷ e ∷ []) l = absurd (omega arith)
joined_eight (a ∷ b ∷ c ∷ d ∷ e ∷ f ∷ []) l = absurd (omega arith)
joined_eight (a ∷ b ∷ c ∷ d ∷ e ∷ f ∷ g ∷ []) l = absurd (omega arith)
joined_eight (a ∷ b ∷ c ∷ d ∷ e ∷ f ∷ g ∷ h ∷ i ∷ v) l = absurd (omega arith)
