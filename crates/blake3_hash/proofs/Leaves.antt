-- The tree of a byte list is the tree of the values of its chunks.
use Rattle.std.proofs.Common.{◌≡◌, ℕ, zero, suc, ◌+◌, ◌-◌, ◌*◌, ◌/◌, ◌^◌, ◌<◌, ◌≤◌, List, [], ◌∷◌, ◌++◌, length, take, drop, refl, sym, ap, ◌∙◌, arith, inl, inr, add-one, add-zero}
use Rattle.std.proofs.lemmas.List.{take_all, length-take-le, length-drop, take-take, drop-take, drop-drop, length_push}
use Rattle.std.proofs.lemmas.Bool.Decides.{leb_tells}
use Rattle.std.proofs.lemmas.Bool.{cases_lt}
use Rattle.std.proofs.Math.Nat.{pow-succ'}
use Rattle.std.proofs.Math.Pow.{pow_mono}
use Rattle.tree_hash.specs.TreeHash.{chunk_value, tree, value}
use Rattle.blake3_hash.specs.Spine.{joined, leaves, spine_root}
use Rattle.tree_hash.proofs.Cuts.{below_power, tree_high, tree_low}
use Rattle.blake3_hash.proofs.Joined.{joined_low, joined_high}

-- the height does not matter, once it is enough
joined_any : (e d : ℕ) (xs : List (List ℕ)) (flag : ℕ) → d ≤ e → length xs ≤ 2 ^ d → joined e xs flag ≡ joined d xs flag
joined_any zero d xs flag le h = ap (λ (k : ℕ). joined k xs flag) (omega arith)
joined_any (suc e) d xs flag le h = elim (cases_lt d (suc e)) [
  | inl lt ↦
      let more : 2 ^ d ≤ 2 ^ e = pow_mono (omega arith) in
      joined_low e xs flag (omega arith) ∙ joined_any e d xs flag (omega arith) h
  | inr ge ↦ ap (λ (k : ℕ). joined k xs flag) (omega arith)
]

pub joined_same : (e d : ℕ) (xs : List (List ℕ)) (flag : ℕ) → length xs ≤ 2 ^ d → length xs ≤ 2 ^ e → joined e xs flag ≡ joined d xs flag
joined_same e d xs flag h l = elim (cases_lt d e) [
  | inl lt ↦ joined_any e d xs flag (omega arith) h
  | inr ge ↦ sym (joined_any d e xs flag (omega arith) l)
]

pub length-leaves : (k : ℕ) (b : List ℕ) (n : ℕ) → length (leaves k b n) ≡ k
unfolding leaves
length-leaves zero b n = refl
length-leaves (suc k) b n = ap suc (length-leaves k (drop 1024 b) (n + 1))

pub take-leaves : (m k : ℕ) (b : List ℕ) (n : ℕ) → m ≤ k → take m (leaves k b n) ≡ leaves m (take (1024 * m) b) n
unfolding leaves
take-leaves zero k b n h = refl
take-leaves (suc m) zero b n h = absurd (omega arith)
take-leaves (suc m) (suc k) b n h =
    let e : 1024 * suc m ≡ 1024 + 1024 * m = omega arith in
    rw (e, take-take 1024 (1024 + 1024 * m) b (omega arith), drop-take 1024 (1024 * m) b, take-leaves m k (drop 1024 b) (n + 1) (omega arith)) refl

drop-leaves : (m k : ℕ) (b : List ℕ) (n : ℕ) → m ≤ k → drop m (leaves k b n) ≡ leaves (k - m) (drop (1024 * m) b) (n + m)
unfolding leaves
drop-leaves zero k b n h =
    let e : k - 0 ≡ k = omega arith in
    rw (e, add-zero) refl
drop-leaves (suc m) zero b n h = absurd (omega arith)
drop-leaves (suc m) (suc k) b n h =
    let e : 1024 * suc m ≡ 1024 + 1024 * m = omega arith in
    let f : suc k - suc m ≡ k - m = omega arith in
    let g : n + suc m ≡ n + 1 + m = omega arith in
    rw (e, f, g, ← drop-drop (1024 * m) 1024 b) (drop-leaves m k (drop 1024 b) (n + 1) (omega arith))

pub leaves-snoc : (k : ℕ) (b : List ℕ) (n : ℕ) → leaves (suc k) b n ≡ leaves k b n ++ chunk_value (take 1024 (drop (1024 * k) b)) (n + k) 0 ∷ []
unfolding leaves
leaves-snoc zero b n = rw add-zero refl
leaves-snoc (suc k) b n =
    let e : 1024 * suc k ≡ 1024 + 1024 * k = omega arith in
    let g : n + suc k ≡ n + 1 + k = omega arith in
    rw (e, g, ← drop-drop (1024 * k) 1024 b)
    (ap (λ (r : List (List ℕ)). chunk_value (take 1024 b) n 0 ∷ r) (leaves-snoc k (drop 1024 b) (n + 1)))

tree_one : (k : ℕ) (b : List ℕ) (n flag : ℕ) → k ≡ 1 → length b ≤ 1024 → flag ≡ 0 → tree 0 b n flag ≡ joined 0 (leaves k b n) flag
unfolding tree joined leaves
tree_one k b n flag e l f = rw (e, f, take_all 1024 b l) refl

pub tree-leaves : (d k : ℕ) (b : List ℕ) (n flag : ℕ) → 1 ≤ k → k ≤ 2 ^ d → length b ≤ 1024 * k → 1024 * (k - 1) < length b → (k ≡ 1 → flag ≡ 0)
    → tree d b n flag ≡ joined d (leaves k b n) flag
tree-leaves zero k b n flag one fits high low f = tree_one k b n flag (omega arith) (omega arith) (f (omega arith))
tree-leaves (suc d) k b n flag one fits high low f =
    let ep : 2 ^ suc d ≡ 2 * 2 ^ d = pow-succ' 2 d in
    let pos : 1 ≤ 2 ^ d = omega (arith, below_power d) in
    let len : length (leaves k b n) ≡ k = length-leaves k b n in
    elim (leb_tells (length b) (1024 * 2 ^ d)) [
      | inl a ↦
          tree_low d b n flag a.1 ∙ tree-leaves d k b n flag one (omega (arith, a.1)) high low f
          ∙ sym (joined_low d (leaves k b n) flag (omega (arith, a.1)))
      | inr x ↦
          let lt : 1024 * 2 ^ d < length b = x.1 in
          let front : length (take (1024 * 2 ^ d) b) ≡ 1024 * 2 ^ d = length-take-le (1024 * 2 ^ d) b (omega arith) in
          let back : length (drop (1024 * 2 ^ d) b) ≡ length b - 1024 * 2 ^ d = length-drop (1024 * 2 ^ d) b in
          let left : tree d (take (1024 * 2 ^ d) b) n 0 ≡ joined d (take (2 ^ d) (leaves k b n)) 0 =
          tree-leaves d (2 ^ d) (take (1024 * 2 ^ d) b) n 0 pos (omega arith) (omega arith) (omega arith) (λ _. refl)
          ∙ ap (λ (r : List (List ℕ)). joined d r 0) (sym (take-leaves (2 ^ d) k b n (omega arith))) in
          let right : tree d (drop (1024 * 2 ^ d) b) (n + 2 ^ d) 0 ≡ joined d (drop (2 ^ d) (leaves k b n)) 0 =
          tree-leaves d (k - 2 ^ d) (drop (1024 * 2 ^ d) b) (n + 2 ^ d) 0 (omega arith) (omega arith) (omega arith) (omega arith) (λ _. refl)
          ∙ ap (λ (r : List (List ℕ)). joined d r 0) (sym (drop-leaves (2 ^ d) k b n (omega arith))) in
          tree_high d b n flag lt ∙ rw (left, right) refl ∙ sym (joined_high d (leaves k b n) flag (omega arith))
    ]

pub leaves_none : (b : List ℕ) (n : ℕ) → leaves 0 b n ≡ []
unfolding leaves
leaves_none b n = refl

pub leaves_next : (k : ℕ) (b x : List ℕ) → x ≡ chunk_value (take 1024 (drop (1024 * k) b)) k 0 → leaves (k + 1) b 0 ≡ leaves k b 0 ++ x ∷ []
leaves_next k b x e =
    let z : 0 + k ≡ k = omega arith in
    rw (add-one, e) (leaves-snoc k b 0 ∙ rw z refl)

value_short : (b : List ℕ) (flag : ℕ) → length b ≤ 1024 → (d : ℕ) → tree d b 0 flag ≡ chunk_value b 0 flag
unfolding tree
value_short b flag h zero = refl
value_short b flag h (suc d) =
    tree_low d b 0 flag (omega (arith, below_power d)) ∙ value_short b flag h d

leaves_two : (k : ℕ) (b last : List ℕ) → last ≡ drop (1024 * suc k) b → length last ≤ 1024
    → leaves (suc (suc k)) b 0 ≡ leaves (suc k) b 0 ++ chunk_value last (suc k) 0 ∷ []
leaves_two k b last e h =
    let z : 0 + suc k ≡ suc k = omega arith in
    let x : chunk_value (take 1024 (drop (1024 * suc k) b)) (0 + suc k) 0 ≡ chunk_value last (suc k) 0 = rw (z, ← e, take_all 1024 last h) refl in
    leaves-snoc (suc k) b 0 ∙ ap (λ (r : List ℕ). leaves (suc k) b 0 ++ r ∷ []) x

spine_root_some : (n : ℕ) (xs : List (List ℕ)) (last : List ℕ) → length xs ≡ suc n
    → spine_root xs last ≡ joined (suc (suc n)) (xs ++ chunk_value last (suc n) 0 ∷ []) 8
unfolding spine_root
spine_root_some n [] last h = absurd (omega arith)
spine_root_some n (x ∷ xs) last h =
    let all : List (List ℕ) = (x ∷ xs) ++ chunk_value last (length (x ∷ xs)) 0 ∷ [] in
    let len : length all ≡ suc (suc n) = length_push (x ∷ xs) (chunk_value last (length (x ∷ xs)) 0) ∙ omega arith in
    ap (λ (d : ℕ). joined d all 8) len
    ∙ ap (λ (c : ℕ). joined (suc (suc n)) ((x ∷ xs) ++ chunk_value last c 0 ∷ []) 8) h

spine_root_first : (b last : List ℕ) → spine_root (leaves 0 b 0) last ≡ chunk_value last 0 8
unfolding leaves spine_root
spine_root_first b last = refl

-- the root of the leaves and the last chunk is the value of the whole
pub spine_root-leaves : (k : ℕ) (b : List ℕ) → k ≡ (length b - 1) / 1024 → spine_root (leaves k b 0) (drop (1024 * k) b) ≡ value b 0 8
unfolding value
spine_root-leaves zero b e = spine_root_first b b ∙ sym (value_short b 8 (omega arith) (length b))
spine_root-leaves (suc k) b e =
    let last : List ℕ = drop (1024 * suc k) b in
    let len : length last ≡ length b - 1024 * suc k = length-drop (1024 * suc k) b in
    let all : List (List ℕ) = leaves (suc (suc k)) b 0 in
    let more : all ≡ leaves (suc k) b 0 ++ chunk_value last (suc k) 0 ∷ [] = leaves_two k b last refl (omega arith) in
    let n : length all ≡ suc (suc k) = length-leaves (suc (suc k)) b 0 in
    let high : length b < 2 ^ length b = below_power (length b) in
    let low : suc (suc k) < 2 ^ suc (suc k) = below_power (suc (suc k)) in
    spine_root_some k (leaves (suc k) b 0) last (length-leaves (suc k) b 0)
    ∙ ap (λ (xs : List (List ℕ)). joined (suc (suc k)) xs 8) (sym more)
    ∙ joined_same (suc (suc k)) (length b) all 8 (omega (arith, n)) (omega (arith, n))
    ∙ sym (tree-leaves (length b) (suc (suc k)) b 0 8 (omega arith) (omega arith) (omega arith) (omega arith) (λ one. absurd (omega arith)))
