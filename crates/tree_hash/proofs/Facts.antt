-- How long values and hashes are, and that a hash is bytes.
use Rattle.std.proofs.Common.{◌≡◌, ℕ, zero, suc, ◌*◌, ◌^◌, List, [], ◌∷◌, length, refl, arith, inl, inr}
use Rattle.std.proofs.lemmas.List.{length-take-le}
use Rattle.std.proofs.lemmas.Bool.Decides.{leb_tells}
use Rattle.tree_hash.specs.TreeHash.{blake3, chunk_value, compress_words, folded, io, parent_value, tree, value, words_bytes}

pub length-compress_words : (h m : List ℕ) (n len flags : ℕ) → length (compress_words h m n len flags) ≡ 8
unfolding compress_words folded
length-compress_words h m n len flags = refl

pub length-chunk_value : (b : List ℕ) (n flag : ℕ) → length (chunk_value b n flag) ≡ 8
unfolding chunk_value compress_words folded
length-chunk_value b n flag = refl

pub length-parent_value : (left right : List ℕ) (flag : ℕ) → length (parent_value left right flag) ≡ 8
unfolding parent_value compress_words folded
length-parent_value left right flag = refl

length-tree : (d : ℕ) (b : List ℕ) (n flag : ℕ) → length (tree d b n flag) ≡ 8
unfolding tree
length-tree zero b n flag = length-chunk_value b n flag
length-tree (suc d) b n flag = elim (leb_tells (length b) (1024 * 2 ^ d)) [
  | inl a ↦ rw a.0 (length-tree d b n flag)
  | inr x ↦ rw x.0 (length-parent_value _ _ flag)
]

pub length-value : (b : List ℕ) (n flag : ℕ) → length (value b n flag) ≡ 8
unfolding value
length-value b n flag = length-tree (length b) b n flag

length-words_bytes : (ws : List ℕ) → length (words_bytes ws) ≡ 4 * length ws
unfolding words_bytes
length-words_bytes [] = refl
length-words_bytes (w ∷ ws) = omega (arith, length-words_bytes ws)

pub length-blake3 : (b : List ℕ) → length (blake3 b) ≡ 32
unfolding blake3
length-blake3 b = omega (arith, length-words_bytes (value b 0 8), length-value b 0 8)

pub length-io : (b : List ℕ) → length (io b) ≡ 20
unfolding io
length-io b = length-take-le 20 (blake3 b) (omega (arith, length-blake3 b))
