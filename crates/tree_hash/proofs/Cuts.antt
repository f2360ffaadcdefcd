-- The two equations of the tree's value: a list of at most one chunk is that chunk, and a longer one is
-- the parent of the greatest power of two of whole chunks that leaves a byte, and of the rest.
use Rattle.std.proofs.Common.{◌≡◌, ℕ, zero, suc, ◌+◌, ◌-◌, ◌*◌, ◌%◌, ◌^◌, ◌<◌, ◌≤◌, List, length, take, drop, refl, sym, ap, ◌∙◌, arith, inl, inr}
use Rattle.std.proofs.lemmas.List.{length-take-le, length-drop}
use Rattle.std.proofs.lemmas.Bool.{cases_lt}
use Rattle.std.proofs.lemmas.Bool.Decides.{leb_tells}
use Rattle.std.proofs.Math.Nat.{pow-succ'}
use Rattle.std.proofs.Math.Pow.{pow_mono}
use Rattle.tree_hash.specs.TreeHash.{IsLeft, chunk_value, parent_value, tree, value}

pub below_power : (n : ℕ) → n < 2 ^ n
below_power zero = omega arith
below_power (suc n) = omega (arith, below_power n, pow-succ' 2 n)

pub tree_low : (d : ℕ) (b : List ℕ) (n flag : ℕ) → length b ≤ 1024 * 2 ^ d → tree (suc d) b n flag ≡ tree d b n flag
unfolding tree
tree_low d b n flag h = elim (leb_tells (length b) (1024 * 2 ^ d)) [
  | inl a ↦ rw a.0 refl
  | inr x ↦ absurd (omega (arith, x.1))
]

pub tree_high : (d : ℕ) (b : List ℕ) (n flag : ℕ) → 1024 * 2 ^ d < length b
    → tree (suc d) b n flag ≡ parent_value (tree d (take (1024 * 2 ^ d) b) n 0) (tree d (drop (1024 * 2 ^ d) b) (n + 2 ^ d) 0) flag
unfolding tree
tree_high d b n flag h = elim (leb_tells (length b) (1024 * 2 ^ d)) [
  | inl a ↦ absurd (omega (arith, a.1))
  | inr x ↦ rw x.0 refl
]

tree_any : (e d : ℕ) (b : List ℕ) (n flag : ℕ) → d ≤ e → length b ≤ 1024 * 2 ^ d → tree e b n flag ≡ tree d b n flag
tree_any zero d b n flag le h = ap (λ (k : ℕ). tree k b n flag) (omega arith)
tree_any (suc e) d b n flag le h = elim (cases_lt d (suc e)) [
  | inl lt ↦
      let more : 2 ^ d ≤ 2 ^ e = pow_mono (omega arith) in
      tree_low e b n flag (omega arith) ∙ tree_any e d b n flag (omega arith) h
  | inr ge ↦ ap (λ (k : ℕ). tree k b n flag) (omega arith)
]

-- the tree of height d is the value, where d is enough
pub value_at : (d : ℕ) (b : List ℕ) (n flag : ℕ) → length b ≤ 1024 * 2 ^ d → value b n flag ≡ tree d b n flag
unfolding value
value_at d b n flag h =
    let high : length b < 2 ^ length b = below_power (length b) in
    elim (cases_lt d (length b)) [
      | inl lt ↦ tree_any (length b) d b n flag (omega arith) h
      | inr ge ↦ sym (tree_any d (length b) b n flag (omega arith) (omega arith))
    ]

tree_zero : (b : List ℕ) (n flag : ℕ) → tree 0 b n flag ≡ chunk_value b n flag
unfolding tree
tree_zero b n flag = refl

pub value_chunk : (b : List ℕ) (n flag : ℕ) → length b ≤ 1024 → value b n flag ≡ chunk_value b n flag
value_chunk b n flag h = value_at 0 b n flag h ∙ tree_zero b n flag

pub value_cut : (d : ℕ) (b : List ℕ) (n flag : ℕ) → 1024 * 2 ^ d < length b → length b ≤ 1024 * 2 ^ suc d
    → value b n flag ≡ parent_value (value (take (1024 * 2 ^ d) b) n 0) (value (drop (1024 * 2 ^ d) b) (n + 2 ^ d) 0) flag
value_cut d b n flag lt le =
    let p : 2 ^ suc d ≡ 2 * 2 ^ d = pow-succ' 2 d in
    let front : length (take (1024 * 2 ^ d) b) ≡ 1024 * 2 ^ d = length-take-le (1024 * 2 ^ d) b (omega arith) in
    let back : length (drop (1024 * 2 ^ d) b) ≡ length b - 1024 * 2 ^ d = length-drop (1024 * 2 ^ d) b in
    value_at (suc d) b n flag le ∙ tree_high d b n flag lt
    ∙ rw (value_at d (take (1024 * 2 ^ d) b) n 0 (omega arith), value_at d (drop (1024 * 2 ^ d) b) (n + 2 ^ d) 0 (omega arith)) refl

-- of more bytes than a chunk there is a left part
left_below : (e len : ℕ) → 1024 < len → len ≤ 1024 * 2 ^ e → (d : ℕ) × IsLeft d len
left_below zero len long h = absurd (omega arith)
left_below (suc e) len long h = elim (cases_lt (1024 * 2 ^ e) len) [
  | inl lt ↦ (e, (lt, h))
  | inr ge ↦ left_below e len long ge
]

pub left_of : (len : ℕ) → 1024 < len → (d : ℕ) × IsLeft d len
left_of len long = left_below len len long (omega (arith, below_power len))

-- a part of at most 2 ^ 63 bytes is not higher than 53
pub height_below : (d : ℕ) → 1024 * 2 ^ d < 2 ^ 63 → d < 53
height_below d h = elim (cases_lt d 53) [
  | inl lt ↦ lt
  | inr ge ↦
      let more : 2 ^ 53 ≤ 2 ^ d = pow_mono ge in
      absurd (omega arith)
]

-- a number of chunks as a shift gives it
pub shifted : (d : ℕ) → d < 53 → 1 * 2 ^ d % 2 ^ 64 ≡ 2 ^ d
shifted d h =
    let less : 2 ^ d ≤ 2 ^ 53 = pow_mono {j = 53} (omega arith) in
    omega arith
