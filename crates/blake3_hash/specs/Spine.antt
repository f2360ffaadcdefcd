-- Chunk values taken in one by one, and the tree over them.
use Rattle.std.specs.Prelude.{ℕ, zero, suc, ◌+◌, ◌%◌, ◌^◌, List, [], ◌∷◌, ◌++◌, length, take, drop, slice_index_or, nat_le, ◌≡◌, ◌<◌, if◌then◌else◌}
use Rattle.tree_hash.specs.TreeHash.{chunk_value, parent_value, words_bytes}

-- the values of the first k chunks of b, of which the first has the number n
unfoldable pub leaves : ℕ → List ℕ → ℕ → List (List ℕ)
leaves zero b n = []
leaves (suc k) b n = chunk_value (take 1024 b) n 0 ∷ leaves k (drop 1024 b) (n + 1)

-- the tree over a list of at most 2 ^ d values, cut as the tree over their chunks
unfoldable pub joined : ℕ → List (List ℕ) → ℕ → List ℕ
joined zero xs flag = slice_index_or xs 0 []
joined (suc d) xs flag =
    if nat_le (length xs) (2 ^ d) then joined d xs flag
    else parent_value (joined d (take (2 ^ d) xs) 0) (joined d (drop (2 ^ d) xs) 0) flag

-- the root over the chunks with the values xs, and the chunk with the bytes `rest` after them
unfoldable pub spine_root : List (List ℕ) → List ℕ → List ℕ
spine_root [] rest = chunk_value rest 0 8
spine_root (x ∷ xs) rest =
    let all : List (List ℕ) = (x ∷ xs) ++ chunk_value rest (length (x ∷ xs)) 0 ∷ [] in
    joined (length all) all 8

-- the hash that this root gives
unfoldable pub spine_hash : List (List ℕ) → List ℕ → List ℕ
spine_hash xs rest = words_bytes (spine_root xs rest)

-- ---- what a spine keeps of the values

-- the parents of a list of values, two by two, with the last one left out where their number is odd
unfoldable pub pairs : List (List ℕ) → List (List ℕ)
pairs [] = []
pairs (x ∷ []) = []
pairs (x ∷ y ∷ xs) = parent_value x y 0 ∷ pairs xs

-- the values of the whole subtrees of 2 ^ k chunks
unfoldable pub pairs_at : ℕ → List (List ℕ) → List (List ℕ)
pairs_at zero xs = xs
pairs_at (suc k) xs = pairs (pairs_at k xs)

-- the last value of a list
abbrev pub last_of : List (List ℕ) → List ℕ
last_of [] = []
last_of (x ∷ []) = x
last_of (x ∷ y ∷ xs) = last_of (y ∷ xs)

-- what a contract sees of a spine: its levels, and the number of values pushed
pub record Levels : Type 0 where
  pub levels : List (List ℕ)
  pub count : ℕ

-- level k has the last of the values of the subtrees of 2 ^ k chunks, where their number is odd
unfoldable pub Holds : List (List ℕ) → ℕ → List (List ℕ) → Type 0
Holds levels count xs = (length levels ≡ 54) × (length xs ≡ count)
    × ((k : ℕ) → k < 54 → length (pairs_at k xs) % 2 ≡ 1 → slice_index_or levels k [] ≡ last_of (pairs_at k xs))

-- the values xs, in order, are what was pushed on the spine
abbrev pub IsPushed : Levels → List (List ℕ) → Type 0
IsPushed spine xs = Holds spine.levels spine.count xs
