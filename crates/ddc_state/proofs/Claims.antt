-- What is claimed once an extent is claimed or released.
use Rattle.std.specs.Prelude.{◌≡◌, ℕ, zero, suc, ◌<◌, Bool, true, false, cond, ◌⊎◌, Option, None, Some, nat_eq, refl}
use Rattle.std.proofs.Common.{ap, sym, ◌∙◌, inl, inr, arith}
use Rattle.std.proofs.lemmas.Bool.{eqb-true}
use Rattle.std.proofs.lemmas.Cmp.{nat_cmp_total}
use Rattle.std.specs.FinMap.{get, insert, remove, nat_cmp-IsAntisymmetric}
use Rattle.ddc_model.specs.declared.rows.Extent.{Extent}
use Rattle.ddc_model.specs.Extents.{extent, Apart}
use Rattle.ddc_model.proofs.Maps.{get_here, get_away, get_removed, get_left, same_or_not, same_some}
use Rattle.blob_store.specs.Claims.{Claims, IsClaim, IsClaimed, IsFree, with_extent, without_extent}

pub positive : (n : ℕ) → nat_eq n 0 ≡ false → 0 < n
positive zero e = absurd (cc)
positive (suc n) e = omega arith

pub no_value : {A : Type 0} {o : Option A} {x : A} → o ≡ None → o ≡ Some x → ⊥
no_value e f = let g : None ≡ Some _ = sym e ∙ f in cc

-- extents that begin at one unit, and have units, are not apart
pub begin_apart : (a b : Extent) → 0 < a.units → 0 < b.units → Apart a b → a.start ≡ b.start → ⊥
begin_apart a b ours theirs far same = far a.start (omega arith, omega (arith, ours)) (omega (arith, same), omega (arith, same, theirs))

module _ (claims : Claims) (e : Extent) where
  -- an extent that was just claimed is one of the claims
  pub now_claimed : IsClaimed (with_extent claims e) e
  now_claimed some = split (nat_eq e.units 0) refl where
    split : (t : Bool) → nat_eq e.units 0 ≡ t → get (cond t claims.extents (insert claims.extents e.start e.units)) e.start ≡ Some e.units
    split true is = absurd (let none = eqb-true e.units 0 is in omega (arith, none, some))
    split false is = get_here nat_cmp_total nat_cmp-IsAntisymmetric claims.extents e.start e.units

  -- the others stay
  pub still_claimed : (start units : ℕ) → IsFree claims e → 0 < units → IsClaim claims start units → IsClaim (with_extent claims e) start units
  still_claimed start units free some is = split (nat_eq e.units 0) refl where
    split : (t : Bool) → nat_eq e.units 0 ≡ t → get (cond t claims.extents (insert claims.extents e.start e.units)) start ≡ Some units
    split true none = is
    split false ours =
        get_away nat_cmp_total nat_cmp-IsAntisymmetric claims.extents e.start e.units start (λ same. begin_apart e (extent start units) (positive e.units ours) some (free.apart start units is) (sym same)) ∙ is

  -- each claim is the new one or was there
  pub claim_more : (start units : ℕ) → IsClaim (with_extent claims e) start units → IsClaim claims start units ⊎ ((0 < units) × (e ≡ extent start units))
  claim_more start units is = split (nat_eq e.units 0) refl is where
    at_once : 0 < e.units → get (insert claims.extents e.start e.units) start ≡ Some units → (start ≡ e.start) ⊎ (start ≡ e.start → ⊥) → IsClaim claims start units ⊎ ((0 < units) × (e ≡ extent start units))
    at_once some is (inl same) =
        let as_many : e.units ≡ units = same_some e.units units (sym (get_here nat_cmp_total nat_cmp-IsAntisymmetric claims.extents e.start e.units) ∙ ap (get (insert claims.extents e.start e.units)) (sym same) ∙ is) in
        inr (omega (arith, as_many, some), λ i. extent (sym same i) (as_many i))
    at_once some is (inr differs) = inl (sym (get_away nat_cmp_total nat_cmp-IsAntisymmetric claims.extents e.start e.units start differs) ∙ is)

    split : (t : Bool) → nat_eq e.units 0 ≡ t → get (cond t claims.extents (insert claims.extents e.start e.units)) start ≡ Some units → IsClaim claims start units ⊎ ((0 < units) × (e ≡ extent start units))
    split true none is = inl is
    split false some is = at_once (positive e.units some) is (same_or_not nat_cmp_total nat_cmp-IsAntisymmetric start e.start)

  -- where one is released each claim was there, and is another one
  pub claim_less : (start units : ℕ) → IsClaim (without_extent claims e) start units → IsClaim claims start units × (0 < units → e ≡ extent start units → ⊥)
  claim_less start units is = split (nat_eq e.units 0) refl is where
    other : get (remove claims.extents e.start) start ≡ Some units → (start ≡ e.start) ⊎ (start ≡ e.start → ⊥) → IsClaim claims start units × (0 < units → e ≡ extent start units → ⊥)
    other is (inl same) = absurd (no_value (ap (get (remove claims.extents e.start)) same ∙ get_removed nat_cmp_total nat_cmp-IsAntisymmetric claims.extents e.start) is)
    other is (inr differs) = (sym (get_left nat_cmp_total nat_cmp-IsAntisymmetric claims.extents e.start start differs) ∙ is, λ some same. differs (ap (λ (x : Extent). x.start) (sym same)))

    split : (t : Bool) → nat_eq e.units 0 ≡ t → get (cond t claims.extents (remove claims.extents e.start)) start ≡ Some units → IsClaim claims start units × (0 < units → e ≡ extent start units → ⊥)
    split true none is = (is, λ some same. let empty = eqb-true e.units 0 none in let as_many = ap (λ (x : Extent). x.units) same in omega (arith, empty, as_many, some))
    split false ours is = other is (same_or_not nat_cmp_total nat_cmp-IsAntisymmetric start e.start)

  -- and those that are apart from it stay
  pub claim_left : (start units : ℕ) → 0 < units → IsClaim claims start units → Apart e (extent start units) → IsClaim (without_extent claims e) start units
  claim_left start units some is far = split (nat_eq e.units 0) refl where
    split : (t : Bool) → nat_eq e.units 0 ≡ t → get (cond t claims.extents (remove claims.extents e.start)) start ≡ Some units
    split true none = is
    split false ours = get_left nat_cmp_total nat_cmp-IsAntisymmetric claims.extents e.start start (λ same. begin_apart e (extent start units) (positive e.units ours) some far (sym same)) ∙ is
