-- How the levels of a spine follow a list of values as it grows, and what they join to.
use Rattle.std.proofs.Common.{◌≡◌, ◌≢◌, ℕ, zero, suc, ◌+◌, ◌-◌, ◌*◌, ◌/◌, ◌%◌, ◌^◌, ◌<◌, ◌≤◌, List, [], ◌∷◌, ◌++◌, length, slice_index_or, slice_set, refl, sym, ap, ◌∙◌, arith, inl, inr, add-one, length-append}
use Rattle.std.proofs.lemmas.List.{get_or-set_same, get_or-set_other, length_push, length-set}
use Rattle.std.proofs.lemmas.Bool.{cases_lt}
use Rattle.std.proofs.Math.Nat.{pow-succ', mul-le-mul_right}
use Rattle.std.proofs.Math.Pow.{pow_mono}
use Rattle.tree_hash.specs.TreeHash.{chunk_value, parent_value}
use Rattle.blake3_hash.specs.Spine.{Holds, joined, last_of, pairs, pairs_at, spine_root}
use Rattle.blake3_hash.proofs.Joined.{lifted, joined-lifted}
use Rattle.tree_hash.proofs.Cuts.{below_power}
use Rattle.blake3_hash.proofs.Leaves.{joined_same}

pub last_of-push : (xs : List (List ℕ)) (v : List ℕ) → last_of (xs ++ v ∷ []) ≡ v
last_of-push [] v = refl
last_of-push (x ∷ []) v = refl
last_of-push (x ∷ y ∷ xs) v = last_of-push (y ∷ xs) v

pub length-pairs : (xs : List (List ℕ)) → length (pairs xs) ≡ length xs / 2
unfolding pairs
length-pairs [] = refl
length-pairs (x ∷ []) = refl
length-pairs (x ∷ y ∷ xs) = omega (arith, length-pairs xs)

pub pairs-push_even : (xs : List (List ℕ)) (v : List ℕ) → length xs % 2 ≡ 0 → pairs (xs ++ v ∷ []) ≡ pairs xs
unfolding pairs
pairs-push_even [] v h = refl
pairs-push_even (x ∷ []) v h = absurd (omega arith)
pairs-push_even (x ∷ y ∷ xs) v h = ap (λ (r : List (List ℕ)). parent_value x y 0 ∷ r) (pairs-push_even xs v (omega arith))

pub pairs-push_odd : (xs : List (List ℕ)) (v : List ℕ) → length xs % 2 ≡ 1 → pairs (xs ++ v ∷ []) ≡ pairs xs ++ parent_value (last_of xs) v 0 ∷ []
unfolding pairs
pairs-push_odd [] v h = absurd (omega arith)
pairs-push_odd (x ∷ []) v h = refl
pairs-push_odd (x ∷ y ∷ []) v h = absurd (omega arith)
pairs-push_odd (x ∷ y ∷ z ∷ xs) v h = ap (λ (r : List (List ℕ)). parent_value x y 0 ∷ r) (pairs-push_odd (z ∷ xs) v (omega arith))

pub lifted-push_even : (xs : List (List ℕ)) (v : List ℕ) → length xs % 2 ≡ 0 → lifted (xs ++ v ∷ []) ≡ pairs xs ++ v ∷ []
unfolding pairs lifted
lifted-push_even [] v h = refl
lifted-push_even (x ∷ []) v h = absurd (omega arith)
lifted-push_even (x ∷ y ∷ xs) v h = ap (λ (r : List (List ℕ)). parent_value x y 0 ∷ r) (lifted-push_even xs v (omega arith))

pub lifted-push_odd : (xs : List (List ℕ)) (v : List ℕ) → length xs % 2 ≡ 1 → lifted (xs ++ v ∷ []) ≡ pairs xs ++ parent_value (last_of xs) v 0 ∷ []
unfolding pairs lifted
lifted-push_odd [] v h = absurd (omega arith)
lifted-push_odd (x ∷ []) v h = refl
lifted-push_odd (x ∷ y ∷ []) v h = absurd (omega arith)
lifted-push_odd (x ∷ y ∷ z ∷ xs) v h = ap (λ (r : List (List ℕ)). parent_value x y 0 ∷ r) (lifted-push_odd (z ∷ xs) v (omega arith))

pub pairs_at_next : (k : ℕ) (xs : List (List ℕ)) → pairs_at (k + 1) xs ≡ pairs (pairs_at k xs)
unfolding pairs_at
pairs_at_next k xs = rw add-one refl

pub pairs_at_first : (xs : List (List ℕ)) → pairs_at 0 xs ≡ xs
unfolding pairs_at
pairs_at_first xs = refl

pub Holds_length : (levels : List (List ℕ)) (count : ℕ) (xs : List (List ℕ)) → Holds levels count xs → length xs ≡ count
unfolding Holds
Holds_length levels count xs h = h.1

pub Holds_level : (levels : List (List ℕ)) (count : ℕ) (xs : List (List ℕ)) (k : ℕ) → Holds levels count xs → k < 54 → length (pairs_at k xs) % 2 ≡ 1
    → slice_index_or levels k [] ≡ last_of (pairs_at k xs)
unfolding Holds
Holds_level levels count xs k h lt odd = h.2 k lt odd

-- ---- the values of a subtree are pushed

-- below level k the values of xs and ys have an even number, and at level k the last is the carry
pub record Carries (k : ℕ) (xs ys : List (List ℕ)) (carry : List ℕ) : Type 0 where
  pub at : pairs_at k (xs ++ ys) ≡ pairs_at k xs ++ carry ∷ []
  pub below : (j : ℕ) → j < k → length (pairs_at j (xs ++ ys)) % 2 ≡ 0

pairs-append : (xs ys : List (List ℕ)) → length xs % 2 ≡ 0 → pairs (xs ++ ys) ≡ pairs xs ++ pairs ys
unfolding pairs
pairs-append [] ys h = refl
pairs-append (x ∷ []) ys h = absurd (omega arith)
pairs-append (x ∷ y ∷ xs) ys h = ap (λ (r : List (List ℕ)). parent_value x y 0 ∷ r) (pairs-append xs ys (omega arith))

lifted-even : (xs : List (List ℕ)) → length xs % 2 ≡ 0 → lifted xs ≡ pairs xs
unfolding pairs lifted
lifted-even [] h = refl
lifted-even (x ∷ []) h = absurd (omega arith)
lifted-even (x ∷ y ∷ xs) h = ap (λ (r : List (List ℕ)). parent_value x y 0 ∷ r) (lifted-even xs (omega arith))

-- the first level may be left first
pairs_at_inner : (k : ℕ) (xs : List (List ℕ)) → pairs_at (suc k) xs ≡ pairs_at k (pairs xs)
unfolding pairs_at
pairs_at_inner zero xs = refl
pairs_at_inner (suc k) xs = ap pairs (pairs_at_inner k xs)

-- of a multiple of 2 ^ (k + 1) values
twice : (n q k : ℕ) → n ≡ q * 2 ^ suc k → n ≡ 2 * (q * 2 ^ k)
twice n q k h =
    let p : 2 ^ suc k ≡ 2 * 2 ^ k = pow-succ' 2 k in
    let e : n ≡ q * (2 * 2 ^ k) = rw p at h in
    omega (arith, e)

pub length-pairs_at_exact : (k q : ℕ) (xs : List (List ℕ)) → length xs ≡ q * 2 ^ k → length (pairs_at k xs) ≡ q
length-pairs_at_exact zero q xs h = ap length (pairs_at_first xs) ∙ omega (arith, h)
length-pairs_at_exact (suc k) q xs h =
    ap length (pairs_at_inner k xs)
    ∙ length-pairs_at_exact k q (pairs xs) (omega (arith, length-pairs xs, twice (length xs) q k h))

below_next : (k : ℕ) (xs ys : List (List ℕ)) → length xs % 2 ≡ 0 → length ys % 2 ≡ 0
    → ((j : ℕ) → j < k → length (pairs_at j (pairs xs ++ pairs ys)) % 2 ≡ 0) → (j : ℕ) → j < suc k → length (pairs_at j (xs ++ ys)) % 2 ≡ 0
below_next k xs ys ex ey h zero lt = rw pairs_at_first (omega (arith, length-append xs ys))
below_next k xs ys ex ey h (suc j) lt = rw (pairs_at_inner j (xs ++ ys), pairs-append xs ys ex) (h j (omega arith))

one_value : (ys : List (List ℕ)) (v : List ℕ) → length ys ≡ 1 → joined 0 ys 0 ≡ v → ys ≡ v ∷ []
unfolding joined
one_value [] v l e = absurd (omega arith)
one_value (y ∷ []) v l e = ap (λ (r : List ℕ). r ∷ []) e
one_value (y ∷ z ∷ ys) v l e = absurd (omega arith)

-- after a multiple of 2 ^ k values the tree over 2 ^ k more is the carry at level k
pub Carries_subtree : (k q : ℕ) (xs ys : List (List ℕ)) (v : List ℕ) → length xs ≡ q * 2 ^ k → length ys ≡ 2 ^ k → joined k ys 0 ≡ v → Carries k xs ys v
Carries_subtree zero q xs ys v lx ly e = record {
  at = rw (pairs_at_first, pairs_at_first, one_value ys v (omega (arith, ly)) e) refl;
  below = λ j lt. absurd (omega arith);
}
Carries_subtree (suc k) q xs ys v lx ly e =
    let p : 2 ^ suc k ≡ 2 * 2 ^ k = pow-succ' 2 k in
    let pos : k < 2 ^ k = below_power k in
    let ex : length xs ≡ 2 * (q * 2 ^ k) = twice (length xs) q k lx in
    let even : length xs % 2 ≡ 0 = omega arith in
    let even_too : length ys % 2 ≡ 0 = omega arith in
    let up : joined k (pairs ys) 0 ≡ v =
    rw (← lifted-even ys even_too) (sym (joined-lifted k ys 0 (omega arith) (omega arith) (λ _. refl)) ∙ e) in
    let c : Carries k (pairs xs) (pairs ys) v =
    Carries_subtree k q (pairs xs) (pairs ys) v (omega (arith, length-pairs xs)) (omega (arith, length-pairs ys)) up in
    record {
      at = rw (pairs_at_inner k (xs ++ ys), pairs-append xs ys even, pairs_at_inner k xs) c.at;
      below = below_next k xs ys even even_too c.below;
    }

pub Carries_next : (k : ℕ) (xs ys : List (List ℕ)) (carry next : List ℕ) → Carries k xs ys carry → length (pairs_at k xs) % 2 ≡ 1
    → next ≡ parent_value (last_of (pairs_at k xs)) carry 0 → Carries (k + 1) xs ys next
Carries_next k xs ys carry next c odd e = record {
  at =
      rw (pairs_at_next k (xs ++ ys), pairs_at_next k xs, c.at, e)
      (pairs-push_odd (pairs_at k xs) carry odd);
  below = λ j lt. elim (cases_lt j k) [
    | inl a ↦ c.below j a
    | inr b ↦
        let same : j ≡ k = omega arith in
        let len : length (pairs_at k xs ++ carry ∷ []) ≡ length (pairs_at k xs) + 1 = length_push (pairs_at k xs) carry in
        rw (same, c.at) (omega arith)
  ];
}

-- above a level with an even number nothing changes
pairs_at_above : (k e : ℕ) (xs ys : List (List ℕ)) (carry : List ℕ) → Carries k xs ys carry → length (pairs_at k xs) % 2 ≡ 0
    → pairs_at (k + 1 + e) (xs ++ ys) ≡ pairs_at (k + 1 + e) xs
pairs_at_above k zero xs ys carry c even =
    let z : k + 1 + 0 ≡ k + 1 = omega arith in
    rw (z, pairs_at_next k (xs ++ ys), pairs_at_next k xs, c.at) (pairs-push_even (pairs_at k xs) carry even)
pairs_at_above k (suc e) xs ys carry c even =
    let z : k + 1 + suc e ≡ k + 1 + e + 1 = omega arith in
    rw (z, pairs_at_next (k + 1 + e) (xs ++ ys), pairs_at_next (k + 1 + e) xs, pairs_at_above k e xs ys carry c even) refl

pub Holds_push : (levels : List (List ℕ)) (count : ℕ) (xs ys : List (List ℕ)) (carry : List ℕ) (k n : ℕ) → k < 54 → n ≡ count + length ys → Holds levels count xs
    → Carries k xs ys carry → length (pairs_at k xs) % 2 ≡ 0 → Holds (slice_set levels k carry) n (xs ++ ys)
unfolding Holds
Holds_push levels count xs ys carry k n lt en h c even = (
  length-set levels k carry ∙ h.0,
  omega (arith, h.1, length-append xs ys),
  λ j jlt odd. elim (cases_lt j k) [
    | inl a ↦ absurd (omega (arith, c.below j a))
    | inr b ↦ elim (cases_lt k j) [
      | inl above ↦
          let ne : j ≢ k = omega arith in
          let at : j ≡ k + 1 + (j - (k + 1)) = omega arith in
          let same : pairs_at j (xs ++ ys) ≡ pairs_at j xs =
          ap (λ (i : ℕ). pairs_at i (xs ++ ys)) at ∙ pairs_at_above k (j - (k + 1)) xs ys carry c even ∙ ap (λ (i : ℕ). pairs_at i xs) (sym at) in
          get_or-set_other levels k j carry [] ne ∙ h.2 j jlt (rw same at odd) ∙ ap last_of (sym same)
      | inr beside ↦
          let e : j ≡ k = omega arith in
          rw (e, c.at) (get_or-set_same levels k carry [] (omega (arith, h.0)) ∙ sym (last_of-push (pairs_at k xs) carry))
    ]
  ],
)

-- ---- the levels are joined

-- with the value v at the right, the values of level k join to r
pub record JoinsTo (k : ℕ) (xs : List (List ℕ)) (v r : List ℕ) : Type 0 where
  pub at : (d : ℕ) → length (pairs_at k xs) + 1 ≤ 2 ^ d → joined d (pairs_at k xs ++ v ∷ []) 8 ≡ r

JoinsTo_step : (k : ℕ) (xs : List (List ℕ)) (v next r : List ℕ) → JoinsTo k xs v r → 2 ≤ length (pairs_at k xs)
    → lifted (pairs_at k xs ++ v ∷ []) ≡ pairs (pairs_at k xs) ++ next ∷ [] → JoinsTo (k + 1) xs next r
JoinsTo_step k xs v next r h two e = record {
  at = λ d fits.
      let zs : List (List ℕ) = pairs_at k xs in
      let up : length (pairs_at (k + 1) xs) ≡ length zs / 2 = ap length (pairs_at_next k xs) ∙ length-pairs zs in
      let p : 2 ^ suc d ≡ 2 * 2 ^ d = pow-succ' 2 d in
      let len : length (zs ++ v ∷ []) ≡ length zs + 1 = length_push zs v in
      let below : joined (suc d) (zs ++ v ∷ []) 8 ≡ joined d (lifted (zs ++ v ∷ [])) 8 =
      joined-lifted d (zs ++ v ∷ []) 8 (omega arith) (omega arith) (λ is_two. absurd (omega arith)) in
      rw (pairs_at_next k xs, ← e, ← below) (h.at (suc d) (omega arith));
}

pub JoinsTo_even : (k : ℕ) (xs : List (List ℕ)) (v r : List ℕ) → JoinsTo k xs v r → 2 ≤ length (pairs_at k xs) → length (pairs_at k xs) % 2 ≡ 0 → JoinsTo (k + 1) xs v r
JoinsTo_even k xs v r h two even = JoinsTo_step k xs v v r h two (lifted-push_even (pairs_at k xs) v even)

pub JoinsTo_odd : (k : ℕ) (xs : List (List ℕ)) (v next r : List ℕ) → JoinsTo k xs v r → 2 ≤ length (pairs_at k xs) → length (pairs_at k xs) % 2 ≡ 1
    → next ≡ parent_value (last_of (pairs_at k xs)) v 0 → JoinsTo (k + 1) xs next r
JoinsTo_odd k xs v next r h two odd e = JoinsTo_step k xs v next r h two (rw e (lifted-push_odd (pairs_at k xs) v odd))

joined_pair : (zs : List (List ℕ)) (v : List ℕ) → length zs ≡ 1 → joined 1 (zs ++ v ∷ []) 8 ≡ parent_value (last_of zs) v 8
unfolding joined
joined_pair [] v h = absurd (omega arith)
joined_pair (x ∷ []) v h = refl
joined_pair (x ∷ y ∷ zs) v h = absurd (omega arith)

pub JoinsTo_done : (k : ℕ) (xs : List (List ℕ)) (v r : List ℕ) → JoinsTo k xs v r → length (pairs_at k xs) ≡ 1 → parent_value (last_of (pairs_at k xs)) v 8 ≡ r
JoinsTo_done k xs v r h one = sym (joined_pair (pairs_at k xs) v one) ∙ h.at 1 (omega arith)

pub JoinsTo_first : (xs : List (List ℕ)) (last : List ℕ) → 1 ≤ length xs → JoinsTo 0 xs (chunk_value last (length xs) 0) (spine_root xs last)
unfolding pairs_at spine_root
JoinsTo_first [] last h = absurd (omega arith)
JoinsTo_first (x ∷ xs) last h = record {
  at = λ d fits.
      let all : List (List ℕ) = (x ∷ xs) ++ chunk_value last (length (x ∷ xs)) 0 ∷ [] in
      let len : length all ≡ length (x ∷ xs) + 1 = length_push (x ∷ xs) (chunk_value last (length (x ∷ xs)) 0) in
      joined_same d (length all) all 8 (omega (arith, below_power (length all))) (omega (arith, len));
}

pub spine_root_none : (xs : List (List ℕ)) (last : List ℕ) → length xs ≡ 0 → spine_root xs last ≡ chunk_value last 0 8
unfolding spine_root
spine_root_none [] last h = refl
spine_root_none (x ∷ xs) last h = absurd (omega arith)

-- a level below the top of a count is below 54
pub level_below : (r k count : ℕ) → 1 ≤ r → r * 2 ^ k ≤ count → count < 2 ^ 54 → k < 54
level_below r k count pos h lt = elim (cases_lt k 54) [
  | inl a ↦ a
  | inr b ↦
      let high : 2 ^ 54 ≤ 2 ^ k = pow_mono b in
      let one : 1 * 2 ^ k ≤ r * 2 ^ k = mul-le-mul_right (2 ^ k) pos in
      absurd (omega arith)
]

pairs_at_none : (k : ℕ) → pairs_at k [] ≡ []
unfolding pairs_at pairs
pairs_at_none zero = refl
pairs_at_none (suc k) = rw (pairs_at_none k) refl

pub Holds_none : (levels : List (List ℕ)) → length levels ≡ 54 → Holds levels 0 []
unfolding Holds
Holds_none levels len = (len, refl, λ k lt odd. absurd (omega (arith, ap length (pairs_at_none k))))

-- the measure of a count, one level on
pub halved : (r k n : ℕ) → r % 2 ≡ 1 → (r + 1) * 2 ^ k ≡ n → (r / 2 + 1) * 2 ^ (k + 1) ≡ n
halved r k n odd e =
    let h : r + 1 ≡ 2 * (r / 2 + 1) = omega arith in
    let f : 2 * (r / 2 + 1) * 2 ^ k ≡ n = rw h at e in
    let p : 2 ^ (k + 1) ≡ 2 * 2 ^ k = rw add-one (pow-succ' 2 k) in
    rw p (omega (arith, f))

pub halved_le : (r k n : ℕ) → r * 2 ^ k ≤ n → r / 2 * 2 ^ (k + 1) ≤ n
halved_le r k n h =
    let two : 2 * (r / 2) ≤ r = omega arith in
    let le : 2 * (r / 2) * 2 ^ k ≤ r * 2 ^ k = mul-le-mul_right (2 ^ k) two in
    let p : 2 ^ (k + 1) ≡ 2 * 2 ^ k = rw add-one (pow-succ' 2 k) in
    rw p (omega (arith, le))

pub length-pairs_at : (k r : ℕ) (xs : List (List ℕ)) → length (pairs_at k xs) ≡ r → length (pairs_at (k + 1) xs) ≡ r / 2
length-pairs_at k r xs e = rw (pairs_at_next k xs, length-pairs (pairs_at k xs), e) refl
