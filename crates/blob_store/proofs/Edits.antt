-- Extents in order, when one is put among them or taken out.
use Rattle.std.specs.Prelude.{◌≡◌, ℕ, ◌+◌, ◌≤◌, ◌<◌, true, false, cond, not, List, [], ◌∷◌, ◌++◌, length, None, Some, refl}
use Rattle.std.proofs.Common.{sym, ap, subst, ⊎_elim, arith}
use Rattle.std.specs.declared.cmp.Ordering.{Ordering}
use Rattle.std.specs.declared.cmp.Ordering.TheVariants.{Less, Equal, Greater}
use Rattle.std.specs.Ordering.{nat_cmp, eq_by_cmp, is_eq}
use Rattle.std.specs.FinMap.{find, put, nat_cmp-IsAntisymmetric}
use Rattle.std.specs.FinMap.Entries.{by_order}
use Rattle.ddc_model.specs.declared.rows.Extent.{Extent}
use Rattle.blob_store.specs.inside.Runs.{AreInOrder, MissesAll, LiesWithin, without, end_of}
use Rattle.blob_store.proofs.Runs.{is_less, is_more, in_order_weaker, in_order_front, in_order_back, in_order_up, not_below, same_some, some_is_not_none}

-- ---- one more

-- it goes before those that begin later
pub put_front : (k v low high : ℕ) (xs ys : List (ℕ × ℕ)) → k < low → AreInOrder low high ys → put nat_cmp k v (xs ++ ys) ≡ put nat_cmp k v xs ++ ys
put_front k v low high [] [] l o = refl
put_front k v low high [] (y ∷ ys) l o = rw (is_less k y.0 (omega (arith, l, o.0))) refl
put_front k v low high (e ∷ es) ys l o =
    elim (nat_cmp k e.0) as (λ r. by_order r ((k, v) ∷ e ∷ (es ++ ys)) ((e.0, v) ∷ (es ++ ys)) (e ∷ put nat_cmp k v (es ++ ys)) ≡ by_order r ((k, v) ∷ e ∷ es) ((e.0, v) ∷ es) (e ∷ put nat_cmp k v es) ++ ys) [
      | Less ↦ refl
      | Equal ↦ refl
      | Greater ↦ ap (λ (r : List (ℕ × ℕ)). e ∷ r) (put_front k v low high es ys l o)
    ]

-- and after those that end before
pub put_back : (k v low high : ℕ) (xs ys : List (ℕ × ℕ)) → high ≤ k → AreInOrder low high xs → put nat_cmp k v (xs ++ ys) ≡ xs ++ put nat_cmp k v ys
put_back k v low high [] ys h o = refl
put_back k v low high (e ∷ es) ys h o = rw (is_more k e.0 (omega (arith, h, o.1, o.2))) (ap (λ (r : List (ℕ × ℕ)). e ∷ r) (put_back k v (e.0 + e.1) high es ys h o.3))

pub put_in_order : (extent : Extent) (low high : ℕ) (es : List (ℕ × ℕ)) → LiesWithin low high extent → MissesAll extent es → AreInOrder low high es → AreInOrder low high (put nat_cmp extent.start extent.units es)
put_in_order extent low high [] w m o = (w.above, w.some, w.below, tt)
put_in_order extent low high (e ∷ es) w m o =
    let P : Ordering → Type 0 = λ r. AreInOrder low high (by_order r ((extent.start, extent.units) ∷ e ∷ es) ((e.0, extent.units) ∷ es) (e ∷ put nat_cmp extent.start extent.units es)) in
    ⊎_elim
    (λ (h : extent.start + extent.units ≤ e.0). subst P (sym (is_less extent.start e.0 (omega (arith, h, w.some)))) (w.above, w.some, w.below, (h, o.1, o.2, o.3)))
    (λ (h : e.0 + e.1 ≤ extent.start). subst P (sym (is_more extent.start e.0 (omega (arith, h, o.1)))) (o.0, o.1, o.2, put_in_order extent (e.0 + e.1) high es (record { above = h; some = w.some; below = w.below }) m.1 o.3))
    m.0

-- there are no fewer of them
pub put_no_fewer : (k v : ℕ) (es : List (ℕ × ℕ)) → length es ≤ length (put nat_cmp k v es)
put_no_fewer k v [] = omega arith
put_no_fewer k v (e ∷ es) =
    elim (nat_cmp k e.0) as (λ r. length (e ∷ es) ≤ length (by_order r ((k, v) ∷ e ∷ es) ((e.0, v) ∷ es) (e ∷ put nat_cmp k v es))) [
      | Less ↦ omega arith
      | Equal ↦ omega arith
      | Greater ↦ omega (arith, put_no_fewer k v es)
    ]

-- ---- one less

-- of two or more, one and more are left
pub without_leaves : (start low high : ℕ) (es : List (ℕ × ℕ)) → AreInOrder low high es → 2 ≤ length es → 1 ≤ length (without start es)
without_leaves start low high [] o h = absurd (omega (arith, h))
without_leaves start low high (e ∷ []) o h = absurd (omega (arith, h))
without_leaves start low high (e ∷ f ∷ es) o h =
    let rest : List (ℕ × ℕ) = without start es in
    elim (nat_cmp start e.0) as (λ r. nat_cmp start e.0 ≡ r → 1 ≤ length (cond (not (is_eq r)) (e ∷ without start (f ∷ es)) (without start (f ∷ es)))) [
      | Less ↦ λ _. omega arith
      | Greater ↦ λ _. omega arith
      | Equal ↦ λ is.
          let at : start ≡ e.0 = nat_cmp-IsAntisymmetric start e.0 is in
          let less : nat_cmp start f.0 ≡ Less = is_less start f.0 (omega (arith, at, o.1, o.3.0)) in
          subst (λ r. 1 ≤ length (cond (not (is_eq r)) (f ∷ rest) rest)) (sym less) (omega arith)
    ] refl

pub without_append : (start : ℕ) (xs ys : List (ℕ × ℕ)) → without start (xs ++ ys) ≡ without start xs ++ without start ys
without_append start [] ys = refl
without_append start (e ∷ es) ys =
    elim (eq_by_cmp nat_cmp start e.0) as (λ b. cond (not b) (e ∷ without start (es ++ ys)) (without start (es ++ ys)) ≡ cond (not b) (e ∷ without start es) (without start es) ++ without start ys) [
      | true ↦ without_append start es ys
      | false ↦ ap (λ (r : List (ℕ × ℕ)). e ∷ r) (without_append start es ys)
    ]

-- nothing goes where nothing begins there
pub without_none : (start : ℕ) (es : List (ℕ × ℕ)) → find nat_cmp start es ≡ None → without start es ≡ es
without_none start [] f = refl
without_none start (e ∷ es) f =
    elim (eq_by_cmp nat_cmp start e.0) as (λ b. cond b (Some e.1) (find nat_cmp start es) ≡ None → cond (not b) (e ∷ without start es) (without start es) ≡ e ∷ es) [
      | true ↦ λ f. absurd (some_is_not_none e.1 f)
      | false ↦ λ f. ap (λ (r : List (ℕ × ℕ)). e ∷ r) (without_none start es f)
    ] f

pub without_in_order : (start low high : ℕ) (es : List (ℕ × ℕ)) → AreInOrder low high es → AreInOrder low high (without start es)
without_in_order start low high [] o = tt
without_in_order start low high (e ∷ es) o =
    let rest = without_in_order start (e.0 + e.1) high es o.3 in
    elim (eq_by_cmp nat_cmp start e.0) as (λ b. AreInOrder low high (cond (not b) (e ∷ without start es) (without start es))) [
      | true ↦ in_order_weaker (e.0 + e.1) high low high (without start es) (omega (arith, o.0)) (omega arith) rest
      | false ↦ (o.0, o.1, o.2, rest)
    ]

-- what is found lies between the bounds
pub found_within : (start n low high : ℕ) (es : List (ℕ × ℕ)) → AreInOrder low high es → find nat_cmp start es ≡ Some n → (low ≤ start) × (0 < n) × (start + n ≤ high)
found_within start n low high [] o f = absurd (some_is_not_none n (sym f))
found_within start n low high (e ∷ es) o f =
    let later : find nat_cmp start es ≡ Some n → (low ≤ start) × (0 < n) × (start + n ≤ high) = λ f. let h = found_within start n (e.0 + e.1) high es o.3 f in (omega (arith, h.0, o.0), h.1, h.2) in
    elim (nat_cmp start e.0) as (λ r. nat_cmp start e.0 ≡ r → cond (is_eq r) (Some e.1) (find nat_cmp start es) ≡ Some n → (low ≤ start) × (0 < n) × (start + n ≤ high)) [
      | Less ↦ λ _ f. later f
      | Greater ↦ λ _ f. later f
      | Equal ↦ λ is f.
          let at : start ≡ e.0 = nat_cmp-IsAntisymmetric start e.0 is in
          let as_many : e.1 ≡ n = same_some e.1 n f in
          (omega (arith, at, o.0), omega (arith, as_many, o.1), omega (arith, at, as_many, o.2))
    ] refl f

-- what begins in a front begins nowhere after it
pub none_after : (start n low high : ℕ) (xs ys : List (ℕ × ℕ)) → AreInOrder low high (xs ++ ys) → find nat_cmp start xs ≡ Some n → find nat_cmp start ys ≡ None
none_after start n low high xs ys o f =
    let ends : (low ≤ start) × (0 < n) × (start + n ≤ end_of low xs) = found_within start n low (end_of low xs) xs (in_order_up low high xs (in_order_front low high xs ys o)) f in
    not_below start (end_of low xs) high ys (omega (arith, ends.1, ends.2)) (in_order_back low high xs ys o)
