-- The claims of extents in order.
use Rattle.std.specs.Prelude.{◌≡◌, ℕ, ◌+◌, ◌-◌, ◌≤◌, ◌<◌, ◌⊎◌, Bool, true, false, cond, not, nat_le, nat_lt, nat_eq, ◌&&◌, List, [], ◌∷◌, Option, None, Some, unwrap_or, IsTrue, refl}
use Rattle.std.proofs.Common.{sym, ◌∙◌, ap, subst, inl, inr, ⊎_elim, arith, tests}
use Rattle.std.proofs.lemmas.Bool.{cases_lt, leb-true, leb-false, ltb-true, ltb-false, lt-ltb, le-ltb, le-leb, eqb-true, eq-eqb}
use Rattle.std.specs.declared.cmp.Ordering.TheVariants.{Less, Equal, Greater}
use Rattle.std.specs.Ordering.{nat_cmp, eq_by_cmp, is_eq, ordering_reverse}
use Rattle.std.proofs.lemmas.Cmp.{nat_cmp_total}
use Rattle.std.specs.FinMap.{FinMap, find, put, insert, remove, from_entries, get-from_entries, get-insert, get-remove, same_map, nat_cmp-IsAntisymmetric}
use Rattle.std.specs.FinMap.Entries.{find-put, find-where_key}
use Rattle.ddc_model.specs.declared.rows.Extent.{Extent}
use Rattle.ddc_model.specs.Extents.{Apart}
use Rattle.blob_store.specs.Claims.{Claims, IsClaim, IsFree, AreApart, IsFirstRun, HasNoRun, with_extent, without_extent}
use Rattle.blob_store.specs.inside.Runs.{AreInOrder, Misses, MissesAll, without, next_after, first_gap, end_of}
use Rattle.blob_store.proofs.Runs.{is_same, is_more, some_is_not_none, same_some}
use Rattle.blob_store.proofs.Edits.{found_within}

pub same_extent : (a b : Extent) → Some a ≡ Some b → a ≡ b
same_extent a b is = cc

abbrev extent_at : ℕ → ℕ → Extent
extent_at start units = record { start = start; units = units }

-- a file of so many units with these extents
abbrev pub claims_of : ℕ → List (ℕ × ℕ) → Claims
claims_of units es = record { units = units; extents = from_entries es }

pub found : (units start n : ℕ) (es : List (ℕ × ℕ)) → IsClaim (claims_of units es) start n → find nat_cmp start es ≡ Some n
found units start n es h = sym (get-from_entries nat_cmp_total es start) ∙ h

pub is_claim : (units start n : ℕ) (es : List (ℕ × ℕ)) → find nat_cmp start es ≡ Some n → IsClaim (claims_of units es) start n
is_claim units start n es f = get-from_entries nat_cmp_total es start ∙ f

-- ---- what misses them all is free

misses_found : (extent : Extent) (start n : ℕ) (es : List (ℕ × ℕ)) → MissesAll extent es → find nat_cmp start es ≡ Some n → Misses extent (start, n)
misses_found extent start n [] m f = absurd (some_is_not_none n (sym f))
misses_found extent start n (e ∷ es) m f =
    elim (nat_cmp start e.0) as (λ r. nat_cmp start e.0 ≡ r → cond (is_eq r) (Some e.1) (find nat_cmp start es) ≡ Some n → Misses extent (start, n)) [
      | Less ↦ λ _ f. misses_found extent start n es m.1 f
      | Greater ↦ λ _ f. misses_found extent start n es m.1 f
      | Equal ↦ λ is f.
          let at : start ≡ e.0 = nat_cmp-IsAntisymmetric start e.0 is in
          let as_many : e.1 ≡ n = same_some e.1 n f in
          ⊎_elim (λ x. inl (omega (arith, x, at))) (λ x. inr (omega (arith, x, at, as_many))) m.0
    ] refl f

pub free_of_misses : (units : ℕ) (extent : Extent) (es : List (ℕ × ℕ)) → extent.start + extent.units ≤ units → MissesAll extent es → IsFree (claims_of units es) extent
free_of_misses units extent es w m = record {
  within = w;
  apart = λ start n is unit a b. ⊎_elim (λ x. omega (arith, x, a.1, b.0)) (λ x. omega (arith, x, a.0, b.1)) (misses_found extent start n es m (found units start n es is));
}

-- two extents with no unit in common miss each other
apart_misses : (extent : Extent) (e : ℕ × ℕ) → 0 < extent.units → 0 < e.1 → Apart extent (record { start = e.0; units = e.1 }) → Misses extent e
apart_misses extent e some n a =
    ⊎_elim
    (λ (h : extent.start + extent.units ≤ e.0). inl h)
    (λ (h : e.0 < extent.start + extent.units). ⊎_elim
    (λ (k : e.0 + e.1 ≤ extent.start). inr k)
    (λ (k : extent.start < e.0 + e.1). ⊎_elim
    (λ (l : extent.start ≤ e.0). absurd (a e.0 (l, h) (omega arith, omega (arith, n))))
    (λ (l : e.0 < extent.start). absurd (a extent.start (omega arith, omega (arith, some)) (omega (arith, l), k)))
    (at_most extent.start e.0))
    (at_most (e.0 + e.1) extent.start))
    (at_most (extent.start + extent.units) e.0)
  where
    at_most : (m n : ℕ) → (m ≤ n) ⊎ (n < m)
    at_most m n = ⊎_elim inr inl (cases_lt n m)

misses_when : (extent : Extent) (low high : ℕ) (es : List (ℕ × ℕ)) → 0 < extent.units → AreInOrder low high es → ((start n : ℕ) → find nat_cmp start es ≡ Some n → Apart extent (record { start = start; units = n })) → MissesAll extent es
misses_when extent low high [] some o a = tt
misses_when extent low high (e ∷ es) some o a =
    let head : find nat_cmp e.0 (e ∷ es) ≡ Some e.1 = rw (is_same e.0) refl in (
      apart_misses extent e some o.1 (a e.0 e.1 head),
      misses_when extent (e.0 + e.1) high es some o.3 (λ start n f.
          let w = found_within start n (e.0 + e.1) high es o.3 f in
          a start n (rw (is_more start e.0 (omega (arith, w.0, o.1))) f)),
    )

pub misses_of_free : (units high : ℕ) (extent : Extent) (es : List (ℕ × ℕ)) → 0 < extent.units → AreInOrder 0 high es → IsFree (claims_of units es) extent → MissesAll extent es
misses_of_free units high extent es some o f = misses_when extent 0 high es some o (λ start n h. f.apart start n (is_claim units start n es h))

-- ---- no two have a unit in common

ordered : (low high a m b n : ℕ) (es : List (ℕ × ℕ)) → AreInOrder low high es → find nat_cmp a es ≡ Some m → find nat_cmp b es ≡ Some n → a < b → a + m ≤ b
ordered low high a m b n [] o f g h = absurd (some_is_not_none m (sym f))
ordered low high a m b n (e ∷ es) o f g h =
    let second : a ≡ e.0 → find nat_cmp b es ≡ Some n = λ at. subst (λ r. cond (is_eq r) (Some e.1) (find nat_cmp b es) ≡ Some n) (is_more b e.0 (omega (arith, at, h))) g in
    let later : find nat_cmp a es ≡ Some m → a + m ≤ b = λ f.
    let w = found_within a m (e.0 + e.1) high es o.3 f in
    ordered (e.0 + e.1) high a m b n es o.3 f (subst (λ r. cond (is_eq r) (Some e.1) (find nat_cmp b es) ≡ Some n) (is_more b e.0 (omega (arith, w.0, o.1, h))) g) h in
    elim (nat_cmp a e.0) as (λ r. nat_cmp a e.0 ≡ r → cond (is_eq r) (Some e.1) (find nat_cmp a es) ≡ Some m → a + m ≤ b) [
      | Less ↦ λ _ f. later f
      | Greater ↦ λ _ f. later f
      | Equal ↦ λ is f.
          let at : a ≡ e.0 = nat_cmp-IsAntisymmetric a e.0 is in
          let as_many : e.1 ≡ m = same_some e.1 m f in
          let w = found_within b n (e.0 + e.1) high es o.3 (second at) in
          omega (arith, at, as_many, w.0)
    ] refl f

pub are_apart : (units : ℕ) (es : List (ℕ × ℕ)) → AreInOrder 0 units es → AreApart (claims_of units es)
are_apart units es o = record {
  within = λ start n is. let w = found_within start n 0 units es o (found units start n es is) in (w.1, w.2);
  apart = λ a m b n f g differ unit x y. ⊎_elim
      (λ (h : a < b). omega (arith, ordered 0 units a m b n es o (found units a m es f) (found units b n es g) h, x.1, y.0))
      (λ (h : b ≤ a). ⊎_elim
      (λ (k : b < a). omega (arith, ordered 0 units b n a m es o (found units b n es g) (found units a m es f) k, y.1, x.0))
      (λ (k : a ≤ b). differ (omega (arith, h, k)))
      (cases_lt b a))
      (cases_lt a b);
}

-- ---- one more, and one less

pub inserted : (k n : ℕ) (es : List (ℕ × ℕ)) → from_entries {R = nat_cmp} (put nat_cmp k n es) ≡ insert (from_entries es) k n
inserted k n es = same_map nat_cmp_total nat_cmp-IsAntisymmetric _ _ (λ q.
    get-from_entries nat_cmp_total (put nat_cmp k n es) q ∙ find-put nat_cmp nat_cmp_total q k n es
    ∙ sym (get-insert nat_cmp_total (from_entries es) k n q ∙ ap (cond (eq_by_cmp nat_cmp q k) (Some n)) (get-from_entries nat_cmp_total es q)))

flipped : (a b : ℕ) → eq_by_cmp nat_cmp a b ≡ eq_by_cmp nat_cmp b a
flipped a b = ap is_eq (nat_cmp_total.antisymm a b) ∙ elim (nat_cmp b a) as (λ r. is_eq (ordering_reverse r) ≡ is_eq r) [ Less ↦ refl | Equal ↦ refl | Greater ↦ refl ]

cond_not : (b : Bool) (x y : Option ℕ) → cond (not b) x y ≡ cond b y x
cond_not true x y = refl
cond_not false x y = refl

pub removed : (k : ℕ) (es : List (ℕ × ℕ)) → from_entries {R = nat_cmp} (without k es) ≡ remove (from_entries es) k
removed k es = same_map nat_cmp_total nat_cmp-IsAntisymmetric _ _ (λ q.
    get-from_entries nat_cmp_total (without k es) q
    ∙ find-where_key nat_cmp (λ x. not (eq_by_cmp nat_cmp k x)) q (λ x is. ap (λ (n : ℕ). not (eq_by_cmp nat_cmp k n)) (sym (nat_cmp-IsAntisymmetric q x is))) es
    ∙ cond_not (eq_by_cmp nat_cmp k q) (find nat_cmp q es) None ∙ ap (λ b. cond b None (find nat_cmp q es)) (flipped k q)
    ∙ sym (get-remove nat_cmp_total (from_entries es) k q ∙ ap (cond (eq_by_cmp nat_cmp q k) None) (get-from_entries nat_cmp_total es q)))

-- ---- the first run

-- where so many units fit first, from a unit on
abbrev pub run_start : ℕ → ℕ → List (ℕ × ℕ) → ℕ
run_start from n [] = from
run_start from n (e ∷ es) = cond (nat_le (from + n) e.0) from (run_start (e.0 + e.1) n es)

pub run_start_is : (from n : ℕ) (es : List (ℕ × ℕ)) → unwrap_or (first_gap from n es) (end_of from es) ≡ run_start from n es
run_start_is from n [] = refl
run_start_is from n (e ∷ es) = elim (nat_le (from + n) e.0) as (λ b. unwrap_or (cond b (Some from) (first_gap (e.0 + e.1) n es)) (end_of (e.0 + e.1) es) ≡ cond b from (run_start (e.0 + e.1) n es)) [
  | true ↦ refl
  | false ↦ run_start_is (e.0 + e.1) n es
]

ends_before : (start n low high : ℕ) (es : List (ℕ × ℕ)) → start + n ≤ low → AreInOrder low high es → MissesAll (record { start = start; units = n }) es
ends_before start n low high [] h o = tt
ends_before start n low high (e ∷ es) h o = (inl (omega (arith, h, o.0)), ends_before start n (e.0 + e.1) high es (omega (arith, h, o.0)) o.3)

pub record RunFound (from n high : ℕ) (es : List (ℕ × ℕ)) (start : ℕ) : Type 0 where
  pub above : from ≤ start
  pub below : start ≤ high
  pub misses : MissesAll (record { start = start; units = n }) es
  pub first : (t : ℕ) → from ≤ t → t < start → ¬ MissesAll (record { start = t; units = n }) es

pub run_found : (from n high : ℕ) (es : List (ℕ × ℕ)) → from ≤ high → AreInOrder from high es → RunFound from n high es (run_start from n es)
run_found from n high [] h o = record { above = omega arith; below = h; misses = tt; first = λ t a b _. omega (arith, a, b) }
run_found from n high (e ∷ es) h o =
    let rest = run_found (e.0 + e.1) n high es o.2 o.3 in
    elim (nat_le (from + n) e.0) as (λ b. nat_le (from + n) e.0 ≡ b → RunFound from n high (e ∷ es) (cond b from (run_start (e.0 + e.1) n es))) [
      | true ↦ λ is.
          let fits = leb-true (from + n) e.0 is in
          record {
            above = omega arith;
            below = h;
            misses = (inl fits, ends_before from n (e.0 + e.1) high es (omega (arith, fits)) o.3);
            first = λ t a b _. omega (arith, a, b);
          }
      | false ↦ λ is.
          let over = leb-false (from + n) e.0 is in
          record {
            above = omega (arith, o.0, rest.above);
            below = rest.below;
            misses = (inr rest.above, rest.misses);
            first = λ t a b m. ⊎_elim
                (λ (x : t < e.0 + e.1). ⊎_elim (λ (y : t + n ≤ e.0). omega (arith, y, over, a)) (λ (y : e.0 + e.1 ≤ t). omega (arith, x, y)) m.0)
                (λ (x : e.0 + e.1 ≤ t). rest.first t x b m.1)
                (cases_lt t (e.0 + e.1));
          }
    ] refl

-- ---- the first that ends after a unit

pub all_ended : (start n : ℕ) (es : List (ℕ × ℕ)) → next_after start es ≡ None → MissesAll (record { start = start; units = n }) es
all_ended start n [] f = tt
all_ended start n (e ∷ es) f =
    let this : Extent = record { start = e.0; units = e.1 } in
    elim (nat_lt start (e.0 + e.1)) as (λ b. nat_lt start (e.0 + e.1) ≡ b → cond b (Some this) (next_after start es) ≡ None → MissesAll (record { start = start; units = n }) (e ∷ es)) [
      | true ↦ λ _ f. absurd (some_is_not_none this f)
      | false ↦ λ is f. (inr (ltb-false start (e.0 + e.1) is), all_ended start n es f)
    ] refl f

pub next_misses : (start n low high : ℕ) (es : List (ℕ × ℕ)) (x : Extent) → AreInOrder low high es → next_after start es ≡ Some x → start + n ≤ x.start → MissesAll (record { start = start; units = n }) es
next_misses start n low high [] x o f h = tt
next_misses start n low high (e ∷ es) x o f h =
    let this : Extent = record { start = e.0; units = e.1 } in
    elim (nat_lt start (e.0 + e.1)) as (λ b. nat_lt start (e.0 + e.1) ≡ b → cond b (Some this) (next_after start es) ≡ Some x → MissesAll (record { start = start; units = n }) (e ∷ es)) [
      | true ↦ λ is f.
          let at : e.0 ≡ x.start = ap (λ (y : Extent). y.start) (same_extent this x f) in
          (inl (omega (arith, h, at)), ends_before start n (e.0 + e.1) high es (omega (arith, h, at)) o.3)
      | false ↦ λ is f. (inr (ltb-false start (e.0 + e.1) is), next_misses start n (e.0 + e.1) high es x o.3 f h)
    ] refl f

pub next_hits : (start n : ℕ) (es : List (ℕ × ℕ)) (x : Extent) → next_after start es ≡ Some x → MissesAll (record { start = start; units = n }) es → start + n ≤ x.start
next_hits start n [] x f m = absurd (some_is_not_none x (sym f))
next_hits start n (e ∷ es) x f m =
    let this : Extent = record { start = e.0; units = e.1 } in
    elim (nat_lt start (e.0 + e.1)) as (λ b. nat_lt start (e.0 + e.1) ≡ b → cond b (Some this) (next_after start es) ≡ Some x → start + n ≤ x.start) [
      | true ↦ λ is f.
          let at : e.0 ≡ x.start = ap (λ (y : Extent). y.start) (same_extent this x f) in
          let before = ltb-true start (e.0 + e.1) is in
          ⊎_elim (λ y. omega (arith, y, at)) (λ y. absurd (omega (arith, y, before))) m.0
      | false ↦ λ _ f. next_hits start n es x f m.1
    ] refl f

pub next_found : (start low high : ℕ) (es : List (ℕ × ℕ)) (x : Extent) → AreInOrder low high es → next_after start es ≡ Some x → find nat_cmp x.start es ≡ Some x.units
next_found start low high [] x o f = absurd (some_is_not_none x (sym f))
next_found start low high (e ∷ es) x o f =
    let this : Extent = record { start = e.0; units = e.1 } in
    elim (nat_lt start (e.0 + e.1)) as (λ b. cond b (Some this) (next_after start es) ≡ Some x → find nat_cmp x.start (e ∷ es) ≡ Some x.units) [
      | true ↦ λ f.
          let head : find nat_cmp e.0 (e ∷ es) ≡ Some e.1 = rw (is_same e.0) refl in
          subst (λ (y : Extent). find nat_cmp y.start (e ∷ es) ≡ Some y.units) (same_extent this x f) head
      | false ↦ λ f.
          let g = next_found start (e.0 + e.1) high es x o.3 f in
          let w = found_within x.start x.units (e.0 + e.1) high es o.3 g in
          rw (is_more x.start e.0 (omega (arith, w.0, o.1))) g
    ] f

pub found_next : (start n low high : ℕ) (es : List (ℕ × ℕ)) → AreInOrder low high es → find nat_cmp start es ≡ Some n → next_after start es ≡ Some (record { start = start; units = n })
found_next start n low high [] o f = absurd (some_is_not_none n (sym f))
found_next start n low high (e ∷ es) o f =
    let later : find nat_cmp start es ≡ Some n → next_after start (e ∷ es) ≡ Some (record { start = start; units = n }) = λ f.
    let w = found_within start n (e.0 + e.1) high es o.3 f in
    let past : nat_lt start (e.0 + e.1) ≡ false = le-ltb start (e.0 + e.1) w.0 in
    rw past (found_next start n (e.0 + e.1) high es o.3 f) in
    elim (nat_cmp start e.0) as (λ r. nat_cmp start e.0 ≡ r → cond (is_eq r) (Some e.1) (find nat_cmp start es) ≡ Some n → next_after start (e ∷ es) ≡ Some (record { start = start; units = n })) [
      | Less ↦ λ _ f. later f
      | Greater ↦ λ _ f. later f
      | Equal ↦ λ is f.
          let at : start ≡ e.0 = nat_cmp-IsAntisymmetric start e.0 is in
          let as_many : e.1 ≡ n = same_some e.1 n f in
          let inside : nat_lt start (e.0 + e.1) ≡ true = lt-ltb start (e.0 + e.1) (omega (arith, at, o.1)) in
          rw inside (ap (λ (p : ℕ × ℕ). Some (extent_at p.0 p.1)) (λ i. (sym at i, as_many i)))
    ] refl f

-- ---- what the calls answer

abbrev with_map : ℕ → FinMap nat_cmp ℕ → Claims
with_map units extents = record { units = units; extents = extents }

pub added : (units : ℕ) (extent : Extent) (es new : List (ℕ × ℕ)) → 0 < extent.units → new ≡ put nat_cmp extent.start extent.units es → claims_of units new ≡ with_extent (claims_of units es) extent
added units extent es new some is =
    let more : nat_eq extent.units 0 ≡ false = search (arith, tests) in
    ap (with_map units) (ap from_entries is ∙ inserted extent.start extent.units es ∙ ap (λ b. cond b (from_entries es) (insert (from_entries es) extent.start extent.units)) (sym more))

pub taken : (units : ℕ) (extent : Extent) (es new : List (ℕ × ℕ)) → 0 < extent.units → new ≡ without extent.start es → claims_of units new ≡ without_extent (claims_of units es) extent
taken units extent es new some is =
    let more : nat_eq extent.units 0 ≡ false = search (arith, tests) in
    ap (with_map units) (ap from_entries is ∙ removed extent.start es ∙ ap (λ b. cond b (from_entries es) (remove (from_entries es) extent.start)) (sym more))

-- whether the first extent that ends after an extent's first unit leaves it free
pub free_before : (units : ℕ) (extent next : Extent) (es : List (ℕ × ℕ)) → 0 < extent.units → extent.start + extent.units ≤ units → AreInOrder 0 units es → Some next ≡ next_after extent.start es
    → (IsTrue (nat_le (extent.start + extent.units) next.start) → IsFree (claims_of units es) extent) × (IsFree (claims_of units es) extent → IsTrue (nat_le (extent.start + extent.units) next.start))
free_before units extent next es some w o is = (
  λ yes. free_of_misses units extent es w (next_misses extent.start extent.units 0 units es next o (sym is) (leb-true (extent.start + extent.units) next.start yes)),
  λ free. le-leb (extent.start + extent.units) next.start (next_hits extent.start extent.units es next (sym is) (misses_of_free units units extent es some o free)),
)

pub free_after_all : (units : ℕ) (extent : Extent) (es : List (ℕ × ℕ)) → extent.start + extent.units ≤ units → None ≡ next_after extent.start es → IsFree (claims_of units es) extent
free_after_all units extent es w is = free_of_misses units extent es w (all_ended extent.start extent.units es (sym is))

-- the first extent that ends after a claimed extent's first unit is that extent
pub claimed_next : (units : ℕ) (extent : Extent) (es : List (ℕ × ℕ)) → AreInOrder 0 units es → IsClaim (claims_of units es) extent.start extent.units → next_after extent.start es ≡ Some extent
claimed_next units extent es o is = found_next extent.start extent.units 0 units es o (found units extent.start extent.units es is)

pub next_claimed : (units : ℕ) (extent : Extent) (es : List (ℕ × ℕ)) → AreInOrder 0 units es → next_after extent.start es ≡ Some extent → IsClaim (claims_of units es) extent.start extent.units
next_claimed units extent es o is = is_claim units extent.start extent.units es (next_found extent.start 0 units es extent o is)

pub first_run : (units n m start : ℕ) (es : List (ℕ × ℕ)) → 0 < n → n ≡ m → n ≤ units - start → AreInOrder 0 units es → RunFound 0 n units es start → IsFirstRun (claims_of units es) m (record { start = start; units = n })
first_run units n m start es some same fits o run = record {
  long = same;
  free = free_of_misses units (record { start = start; units = n }) es (omega (arith, fits, run.below, some)) run.misses;
  first = λ t before free.
      let free' : IsFree (claims_of units es) (extent_at t n) = subst (λ (k : ℕ). IsFree (claims_of units es) (extent_at t k)) (sym same) free in
      run.first t (omega arith) before (misses_of_free units units (extent_at t n) es some o free');
}

pub no_run : (units n m start : ℕ) (es : List (ℕ × ℕ)) → 0 < n → n ≡ m → units - start < n → AreInOrder 0 units es → RunFound 0 n units es start → HasNoRun (claims_of units es) m
no_run units n m start es some same short o run t free =
    let free' : IsFree (claims_of units es) (extent_at t n) = subst (λ (k : ℕ). IsFree (claims_of units es) (extent_at t k)) (sym same) free in
    ⊎_elim
    (λ (before : t < start). run.first t (omega arith) before (misses_of_free units units (extent_at t n) es some o free'))
    (λ (after : start ≤ t). omega (arith, after, short, run.below, free'.within))
    (cases_lt t start)

-- ---- two extents are the same

and_parts : (a b : Bool) → (a && b) ≡ true → (a ≡ true) × (b ≡ true)
and_parts true b h = (refl, h)
and_parts false b h = absurd (cc)

pub same_when : (a b : Extent) → IsTrue (nat_eq a.start b.start && nat_eq a.units b.units) → a ≡ b
same_when a b h =
    let p = and_parts (nat_eq a.start b.start) (nat_eq a.units b.units) h in
    λ i. record { start = eqb-true a.start b.start p.0 i; units = eqb-true a.units b.units p.1 i }

pub when_same : (a b : Extent) → a ≡ b → IsTrue (nat_eq a.start b.start && nat_eq a.units b.units)
when_same a b is =
    let starts : nat_eq a.start b.start ≡ true = eq-eqb a.start b.start (ap (λ (e : Extent). e.start) is) in
    let counts : nat_eq a.units b.units ≡ true = eq-eqb a.units b.units (ap (λ (e : Extent). e.units) is) in
    rw (starts, counts) refl
