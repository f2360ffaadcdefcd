-- Extents in order: parts of them, and look-ups.
use Rattle.std.specs.Prelude.{◌≡◌, ◌≢◌, ℕ, ◌+◌, ◌≤◌, ◌<◌, true, false, cond, List, [], ◌∷◌, ◌++◌, None, Some, refl}
use Rattle.std.proofs.Common.{sym, ⊎_elim, arith, tests}
use Rattle.std.specs.declared.cmp.Ordering.TheVariants.{Less, Equal, Greater}
use Rattle.std.specs.Ordering.{nat_cmp, eq_by_cmp}
use Rattle.std.specs.FinMap.{find}
use Rattle.ddc_model.specs.declared.rows.Extent.{Extent}
use Rattle.blob_store.specs.inside.Runs.{AreInOrder, MissesAll, end_of}

-- ---- comparisons of units

pub is_less : (m n : ℕ) → m < n → nat_cmp m n ≡ Less
is_less m n h = search (arith, tests)

pub is_same : (n : ℕ) → nat_cmp n n ≡ Equal
is_same n = search (arith, tests)

pub is_more : (m n : ℕ) → n < m → nat_cmp m n ≡ Greater
is_more m n h = search (arith, tests)

pub some_is_not_none : {A : Type 0} (x : A) → Some x ≢ None
some_is_not_none x is = cc

pub same_some : (m n : ℕ) → Some m ≡ Some n → m ≡ n
same_some m n is = cc

-- ---- parts of a list in order

pub in_order_weaker : (low high low' high' : ℕ) (es : List (ℕ × ℕ)) → low' ≤ low → high ≤ high' → AreInOrder low high es → AreInOrder low' high' es
in_order_weaker low high low' high' [] l h o = tt
in_order_weaker low high low' high' (e ∷ es) l h o = (omega (arith, o.0), o.1, omega (arith, o.2), in_order_weaker (e.0 + e.1) high (e.0 + e.1) high' es (omega arith) h o.3)

pub in_order_front : (low high : ℕ) (xs ys : List (ℕ × ℕ)) → AreInOrder low high (xs ++ ys) → AreInOrder low high xs
in_order_front low high [] ys o = tt
in_order_front low high (e ∷ es) ys o = (o.0, o.1, o.2, in_order_front (e.0 + e.1) high es ys o.3)

pub in_order_back : (low high : ℕ) (xs ys : List (ℕ × ℕ)) → AreInOrder low high (xs ++ ys) → AreInOrder (end_of low xs) high ys
in_order_back low high [] ys o = o
in_order_back low high (e ∷ es) ys o = in_order_back (e.0 + e.1) high es ys o.3

pub low_end : (low high : ℕ) (es : List (ℕ × ℕ)) → AreInOrder low high es → low ≤ end_of low es
low_end low high [] o = omega arith
low_end low high (e ∷ es) o = let rest : e.0 + e.1 ≤ end_of (e.0 + e.1) es = low_end (e.0 + e.1) high es o.3 in omega (arith, o.0, rest)

pub end_high : (low high : ℕ) (es : List (ℕ × ℕ)) → low ≤ high → AreInOrder low high es → end_of low es ≤ high
end_high low high [] l o = l
end_high low high (e ∷ es) l o = end_high (e.0 + e.1) high es o.2 o.3

-- up to their own end
pub in_order_up : (low high : ℕ) (es : List (ℕ × ℕ)) → AreInOrder low high es → AreInOrder low (end_of low es) es
in_order_up low high [] o = tt
in_order_up low high (e ∷ es) o = (o.0, o.1, low_end (e.0 + e.1) high es o.3, in_order_up (e.0 + e.1) high es o.3)

pub end_of_append : (low : ℕ) (xs ys : List (ℕ × ℕ)) → end_of low (xs ++ ys) ≡ end_of (end_of low xs) ys
end_of_append low [] ys = refl
end_of_append low (e ∷ es) ys = end_of_append (e.0 + e.1) es ys

-- ---- extents that miss others

pub misses_front : (extent : Extent) (xs ys : List (ℕ × ℕ)) → MissesAll extent (xs ++ ys) → MissesAll extent xs
misses_front extent [] ys m = tt
misses_front extent (e ∷ es) ys m = (m.0, misses_front extent es ys m.1)

pub misses_back : (extent : Extent) (xs ys : List (ℕ × ℕ)) → MissesAll extent (xs ++ ys) → MissesAll extent ys
misses_back extent [] ys m = m
misses_back extent (e ∷ es) ys m = misses_back extent es ys m.1

-- what ends at or below a unit that the extent has, or ends before, lies before the extent
pub lies_before : (extent : Extent) (low high : ℕ) (es : List (ℕ × ℕ)) → high ≤ extent.start + extent.units → AreInOrder low high es → MissesAll extent es → AreInOrder low extent.start es
lies_before extent low high [] h o m = tt
lies_before extent low high (e ∷ es) h o m =
    let rest = lies_before extent (e.0 + e.1) high es h o.3 m.1 in
    let ends : e.0 + e.1 ≤ extent.start = ⊎_elim (λ before. absurd (omega (arith, before, h, o.2, o.1))) (λ after. after) m.0 in
    (o.0, o.1, ends, rest)

-- what begins after a unit that the extent has lies after the extent
pub lies_after : (extent : Extent) (low high : ℕ) (es : List (ℕ × ℕ)) → extent.start < low → AreInOrder low high es → MissesAll extent es → AreInOrder (extent.start + extent.units) high es
lies_after extent low high [] h o m = tt
lies_after extent low high (e ∷ es) h o m =
    let begins : extent.start + extent.units ≤ e.0 = ⊎_elim (λ before. before) (λ after. absurd (omega (arith, after, h, o.0, o.1))) m.0 in
    (begins, o.1, o.2, o.3)

-- ---- look-ups

-- what isn't between the bounds isn't found
pub not_below : (start low high : ℕ) (es : List (ℕ × ℕ)) → start < low → AreInOrder low high es → find nat_cmp start es ≡ None
not_below start low high [] h o = refl
not_below start low high (e ∷ es) h o = rw (is_less start e.0 (omega (arith, h, o.0))) (not_below start (e.0 + e.1) high es (omega (arith, h, o.0)) o.3)

pub not_above : (start low high : ℕ) (es : List (ℕ × ℕ)) → high ≤ start → AreInOrder low high es → find nat_cmp start es ≡ None
not_above start low high [] h o = refl
not_above start low high (e ∷ es) h o = rw (is_more start e.0 (omega (arith, h, o.1, o.2))) (not_above start (e.0 + e.1) high es h o.3)

pub found_front : (start n : ℕ) (xs ys : List (ℕ × ℕ)) → find nat_cmp start xs ≡ Some n → find nat_cmp start (xs ++ ys) ≡ Some n
found_front start n [] ys f = absurd (some_is_not_none n (sym f))
found_front start n (e ∷ es) ys f =
    elim (eq_by_cmp nat_cmp start e.0) as (λ b. cond b (Some e.1) (find nat_cmp start es) ≡ Some n → cond b (Some e.1) (find nat_cmp start (es ++ ys)) ≡ Some n) [
      | true ↦ λ f. f
      | false ↦ λ f. found_front start n es ys f
    ] f

pub found_back : (start : ℕ) (xs ys : List (ℕ × ℕ)) → find nat_cmp start xs ≡ None → find nat_cmp start (xs ++ ys) ≡ find nat_cmp start ys
found_back start [] ys f = refl
found_back start (e ∷ es) ys f =
    elim (eq_by_cmp nat_cmp start e.0) as (λ b. cond b (Some e.1) (find nat_cmp start es) ≡ None → cond b (Some e.1) (find nat_cmp start (es ++ ys)) ≡ find nat_cmp start ys) [
      | true ↦ λ f. absurd (some_is_not_none e.1 f)
      | false ↦ λ f. found_back start es ys f
    ] f
