-- The tree that is cut from above is the tree that is joined two by two from below.
use Rattle.std.proofs.Common.{◌≡◌, ℕ, zero, suc, ◌+◌, ◌-◌, ◌*◌, ◌/◌, ◌^◌, ◌<◌, ◌≤◌, List, [], ◌∷◌, length, take, drop, refl, sym, ap, ◌∙◌, arith, inl, inr}
use Rattle.std.proofs.lemmas.List.{length-take-le, length-drop}
use Rattle.std.proofs.lemmas.Bool.Decides.{leb_tells}
use Rattle.std.proofs.Math.Nat.{pow-succ'}
use Rattle.tree_hash.specs.TreeHash.{parent_value}
use Rattle.blake3_hash.specs.Spine.{joined}

-- ---- one step of the cut

pub joined_low : (d : ℕ) (xs : List (List ℕ)) (flag : ℕ) → length xs ≤ 2 ^ d → joined (suc d) xs flag ≡ joined d xs flag
unfolding joined
joined_low d xs flag h = elim (leb_tells (length xs) (2 ^ d)) [
  | inl a ↦ rw a.0 refl
  | inr b ↦ absurd (omega (arith, b.1))
]

pub joined_high : (d : ℕ) (xs : List (List ℕ)) (flag : ℕ) → 2 ^ d < length xs
    → joined (suc d) xs flag ≡ parent_value (joined d (take (2 ^ d) xs) 0) (joined d (drop (2 ^ d) xs) 0) flag
unfolding joined
joined_high d xs flag h = elim (leb_tells (length xs) (2 ^ d)) [
  | inl a ↦ absurd (omega (arith, a.1))
  | inr b ↦ rw b.0 refl
]

-- ---- the level above, with an odd last value taken along

unfoldable pub lifted : List (List ℕ) → List (List ℕ)
lifted [] = []
lifted (x ∷ []) = x ∷ []
lifted (x ∷ y ∷ xs) = parent_value x y 0 ∷ lifted xs

pub length-lifted : (xs : List (List ℕ)) → length (lifted xs) ≡ (length xs + 1) / 2
unfolding lifted
length-lifted [] = refl
length-lifted (x ∷ []) = refl
length-lifted (x ∷ y ∷ xs) = omega (arith, length-lifted xs)

take-lifted : (m n : ℕ) (xs : List (List ℕ)) → n ≡ 2 * m → n ≤ length xs → lifted (take n xs) ≡ take m (lifted xs)
unfolding lifted
take-lifted zero zero xs e h = refl
take-lifted zero (suc n) xs e h = absurd (omega arith)
take-lifted (suc m) zero xs e h = absurd (omega arith)
take-lifted (suc m) (suc zero) xs e h = absurd (omega arith)
take-lifted (suc m) (suc (suc n)) [] e h = absurd (omega arith)
take-lifted (suc m) (suc (suc n)) (x ∷ []) e h = absurd (omega arith)
take-lifted (suc m) (suc (suc n)) (x ∷ y ∷ xs) e h =
    ap (λ (r : List (List ℕ)). parent_value x y 0 ∷ r) (take-lifted m n xs (omega arith) (omega arith))

drop-lifted : (m n : ℕ) (xs : List (List ℕ)) → n ≡ 2 * m → n ≤ length xs → lifted (drop n xs) ≡ drop m (lifted xs)
unfolding lifted
drop-lifted zero zero xs e h = refl
drop-lifted zero (suc n) xs e h = absurd (omega arith)
drop-lifted (suc m) zero xs e h = absurd (omega arith)
drop-lifted (suc m) (suc zero) xs e h = absurd (omega arith)
drop-lifted (suc m) (suc (suc n)) [] e h = absurd (omega arith)
drop-lifted (suc m) (suc (suc n)) (x ∷ []) e h = absurd (omega arith)
drop-lifted (suc m) (suc (suc n)) (x ∷ y ∷ xs) e h = drop-lifted m n xs (omega arith) (omega arith)

joined_two : (xs : List (List ℕ)) (flag : ℕ) → 1 ≤ length xs → length xs ≤ 2 → (length xs ≡ 2 → flag ≡ 0) → joined 1 xs flag ≡ joined 0 (lifted xs) flag
unfolding joined lifted
joined_two [] flag h l f = absurd (omega arith)
joined_two (x ∷ []) flag h l f = refl
joined_two (x ∷ y ∷ []) flag h l f = rw (f refl) refl
joined_two (x ∷ y ∷ z ∷ xs) flag h l f = absurd (omega arith)

-- the key: a tree one higher is the tree of the level above
pub joined-lifted : (d : ℕ) (xs : List (List ℕ)) (flag : ℕ) → 1 ≤ length xs → length xs ≤ 2 ^ suc d → (length xs ≡ 2 → flag ≡ 0)
    → joined (suc d) xs flag ≡ joined d (lifted xs) flag
joined-lifted zero xs flag h l f = joined_two xs flag h l f
joined-lifted (suc d) xs flag h l f =
    let p : ℕ = 2 ^ d in
    let ep : 2 ^ suc d ≡ 2 * 2 ^ d = pow-succ' 2 d in
    let eq : 2 ^ suc (suc d) ≡ 2 * 2 ^ suc d = pow-succ' 2 (suc d) in
    let len : length (lifted xs) ≡ (length xs + 1) / 2 = length-lifted xs in
    elim (leb_tells (length xs) (2 ^ suc d)) [
      | inl a ↦
          joined_low (suc d) xs flag a.1 ∙ joined-lifted d xs flag h a.1 f
          ∙ sym (joined_low d (lifted xs) flag (omega (arith, a.1)))
      | inr b ↦
          let lt : 2 ^ suc d < length xs = b.1 in
          let front : length (take (2 ^ suc d) xs) ≡ 2 ^ suc d = length-take-le (2 ^ suc d) xs (omega arith) in
          let back : length (drop (2 ^ suc d) xs) ≡ length xs - 2 ^ suc d = length-drop (2 ^ suc d) xs in
          let left : joined (suc d) (take (2 ^ suc d) xs) 0 ≡ joined d (take (2 ^ d) (lifted xs)) 0 =
          joined-lifted d (take (2 ^ suc d) xs) 0 (omega arith) (omega arith) (λ _. refl)
          ∙ ap (λ (r : List (List ℕ)). joined d r 0) (take-lifted (2 ^ d) (2 ^ suc d) xs ep (omega arith)) in
          let right : joined (suc d) (drop (2 ^ suc d) xs) 0 ≡ joined d (drop (2 ^ d) (lifted xs)) 0 =
          joined-lifted d (drop (2 ^ suc d) xs) 0 (omega arith) (omega arith) (λ _. refl)
          ∙ ap (λ (r : List (List ℕ)). joined d r 0) (drop-lifted (2 ^ d) (2 ^ suc d) xs ep (omega arith)) in
          joined_high (suc d) xs flag lt
          ∙ (rw (left, right) refl)
          ∙ sym (joined_high d (lifted xs) flag (omega arith))
    ]
