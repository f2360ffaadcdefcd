-- Chunks side by side: each word of a state is a vector, with one lane for each chunk.
use Rattle.std.specs.Prelude.{ℕ, List, [], ◌∷◌, map, slice_index}
use Rattle.tree_hash.specs.TreeHash.{mix}

-- the words of lane j
abbrev pub lane : ℕ → List (List ℕ) → List ℕ
lane j v = map (λ x. slice_index x j) v

-- the places that the bytes of four words come from, each word rotated to the right by one byte
abbrev pub one_byte : List ℕ
one_byte = 1 ∷ 2 ∷ 3 ∷ 0 ∷ 5 ∷ 6 ∷ 7 ∷ 4 ∷ 9 ∷ 10 ∷ 11 ∷ 8 ∷ 13 ∷ 14 ∷ 15 ∷ 12 ∷ []

-- and by two
abbrev pub two_bytes : List ℕ
two_bytes = 2 ∷ 3 ∷ 0 ∷ 1 ∷ 6 ∷ 7 ∷ 4 ∷ 5 ∷ 10 ∷ 11 ∷ 8 ∷ 9 ∷ 14 ∷ 15 ∷ 12 ∷ 13 ∷ []

-- four zeros
abbrev pub no_words : List ℕ
no_words = 0 ∷ 0 ∷ 0 ∷ 0 ∷ []

-- eight zeros
abbrev pub no_words8 : List ℕ
no_words8 = 0 ∷ 0 ∷ 0 ∷ 0 ∷ 0 ∷ 0 ∷ 0 ∷ 0 ∷ []

-- the first half of a round: G on the four columns of the state
unfoldable pub mix_columns : List ℕ → List ℕ → List ℕ
mix_columns v m =
    let v1 : List ℕ = mix v 0 4 8 12 (slice_index m 0) (slice_index m 1) in
    let v2 : List ℕ = mix v1 1 5 9 13 (slice_index m 2) (slice_index m 3) in
    let v3 : List ℕ = mix v2 2 6 10 14 (slice_index m 4) (slice_index m 5) in
    mix v3 3 7 11 15 (slice_index m 6) (slice_index m 7)

-- the second half: G on the four diagonals
unfoldable pub mix_diagonals : List ℕ → List ℕ → List ℕ
mix_diagonals v m =
    let v1 : List ℕ = mix v 0 5 10 15 (slice_index m 8) (slice_index m 9) in
    let v2 : List ℕ = mix v1 1 6 11 12 (slice_index m 10) (slice_index m 11) in
    let v3 : List ℕ = mix v2 2 7 8 13 (slice_index m 12) (slice_index m 13) in
    mix v3 3 4 9 14 (slice_index m 14) (slice_index m 15)
