-- An extent is put into a parted area, or taken out of it.
use Rattle.std.specs.Prelude.{◌≡◌, ℕ, ◌+◌, ◌≤◌, ◌<◌, true, false, cond, not, List, [], ◌∷◌, ◌++◌, None, Some, refl}
use Rattle.std.proofs.Common.{sym, ◌∙◌, ap, subst, ⊎_elim, arith}
use Rattle.std.specs.declared.cmp.Ordering.TheVariants.{Less, Equal, Greater}
use Rattle.std.specs.Ordering.{nat_cmp, eq_by_cmp, is_eq}
use Rattle.std.specs.FinMap.{find, put, nat_cmp-IsAntisymmetric}
use Rattle.ddc_model.specs.declared.rows.Extent.{Extent}
use Rattle.blob_store.specs.declared.area.Area.{Area}
use Rattle.blob_store.specs.declared.area.Area.TheVariants.{Empty, One, Parted'}
use Rattle.blob_store.specs.declared.area.PartedArea.{PartedArea}
use Rattle.blob_store.specs.declared.held.Held.{Held}
use Rattle.blob_store.specs.declared.held.Held.TheVariants.{Free, Taken}
use Rattle.blob_store.specs.inside.Runs.{AreInOrder, MissesAll, LiesWithin, without, end_of}
use Rattle.blob_store.specs.inside.Areas.{extents_in, listed_held, middle_unit, HasMiddle, IsHeldAt, IsPlaced, AreSpanned}
use Rattle.blob_store.proofs.Runs.{is_more, in_order_weaker, in_order_back, misses_front, misses_back, lies_before, not_below, not_above, found_front, found_back, some_is_not_none, same_some}
use Rattle.blob_store.proofs.Edits.{put_front, put_back, put_in_order, without_append, without_none, without_in_order, found_within, none_after}
use Rattle.blob_store.proofs.Parts.{parts_in, ArePartsSpanned}

-- what is known of the parts of a placed area
abbrev pub ArePartsPlaced : ℕ → ℕ → PartedArea → Type 0
ArePartsPlaced low high parted =
    AreInOrder low high (parts_in parted)
    × IsHeldAt (middle_unit low high) parted.held
    × AreInOrder low (middle_unit low high) (extents_in parted.left)
    × AreInOrder (middle_unit low high + 1) high (extents_in parted.right)
    × IsPlaced low (middle_unit low high) parted.left
    × IsPlaced (middle_unit low high + 1) high parted.right

pub in_order_of : (low high : ℕ) (area : Area) → IsPlaced low high area → AreInOrder low high (extents_in area)
in_order_of low high Empty p = tt
in_order_of low high (One units start) p = p
in_order_of low high (Parted' q held span left right) p = p.0

-- what is known of an area that is about to change, by its parts
pub record Changing (low high : ℕ) (area : Area) (parted : PartedArea) : Type 0 where
  pub full : extents_in area ≡ parts_in parted
  pub placed : ArePartsPlaced low high parted
  pub spans : ArePartsSpanned parted

pub changing : (low high : ℕ) (area view : Area) (parted inside : PartedArea) → area ≡ view → parted ≡ inside → extents_in view ≡ parts_in inside → (IsPlaced low high view → ArePartsPlaced low high inside) → (AreSpanned view → ArePartsSpanned inside) → IsPlaced low high area → AreSpanned area → Changing low high area parted
changing low high area view parted inside is same full placed spans p s = record {
  full = ap extents_in is ∙ full ∙ ap parts_in (sym same);
  placed = subst (ArePartsPlaced low high) (sym same) (placed (subst (IsPlaced low high) is p));
  spans = subst ArePartsSpanned (sym same) (spans (subst AreSpanned is s));
}

-- ---- an extent more

-- before the extent that has the middle unit, and those after it
back_follows : (extent : Extent) (mid low high : ℕ) (held : Held) (ys : List (ℕ × ℕ)) → extent.start + extent.units ≤ mid → IsHeldAt mid held → MissesAll extent (listed_held held ++ ys) → AreInOrder low high (listed_held held ++ ys) → AreInOrder (mid + 1) high ys → AreInOrder (extent.start + extent.units) high (listed_held held ++ ys)
back_follows extent mid low high Free ys h m f o r = in_order_weaker (mid + 1) high (extent.start + extent.units) high ys (omega (arith, h)) (omega arith) r
back_follows extent mid low high (Taken units start) ys h m f o r =
    let before : extent.start + extent.units ≤ start = ⊎_elim (λ x. x) (λ x. absurd (omega (arith, x, h, m.1))) f.0 in
    (before, o.1, o.2, o.3)

-- after the extent that has the middle unit
put_past : (k n mid : ℕ) (held : Held) (ys : List (ℕ × ℕ)) → mid < k → IsHeldAt mid held → put nat_cmp k n (listed_held held ++ ys) ≡ listed_held held ++ put nat_cmp k n ys
put_past k n mid Free ys h m = refl
put_past k n mid (Taken units start) ys h m = rw (is_more k start (omega (arith, h, m.0))) refl

-- two extents that have the middle unit don't miss each other
no_held : (extent : Extent) (mid : ℕ) (held : Held) (ys : List (ℕ × ℕ)) → HasMiddle mid extent → IsHeldAt mid held → MissesAll extent (listed_held held ++ ys) → held ≡ Free
no_held extent mid Free ys h m f = refl
no_held extent mid (Taken units start) ys h m f = absurd (⊎_elim (λ x. omega (arith, x, h.1, m.0)) (λ x. omega (arith, x, h.0, m.1)) f.0)

-- the same parts with this extent at the middle unit
abbrev pub held_by : PartedArea → Held → PartedArea
held_by parted held = record { held = held; span = parted.span; left = parted.left; right = parted.right }

pub record PutIn (low high : ℕ) (extent : Extent) (old new : PartedArea) : Type 0 where
  pub list : parts_in new ≡ put nat_cmp extent.start extent.units (parts_in old)
  pub placed : ArePartsPlaced low high new

module _ (low high : ℕ) (extent : Extent) (old new : PartedArea) (w : LiesWithin low high extent) (f : MissesAll extent (parts_in old)) (p : ArePartsPlaced low high old) where
  in_order : parts_in new ≡ put nat_cmp extent.start extent.units (parts_in old) → AreInOrder low high (parts_in new)
  in_order is = subst (AreInOrder low high) (sym is) (put_in_order extent low high (parts_in old) w f p.0)

  pub put_right : middle_unit low high < extent.start → (right : Area) → new ≡ record { held = old.held; span = old.span; left = old.left; right = right } → extents_in right ≡ put nat_cmp extent.start extent.units (extents_in old.right) → IsPlaced (middle_unit low high + 1) high right → PutIn low high extent old new
  put_right h right is r q =
      let xs = extents_in old.left in
      let ys = extents_in old.right in
      let list : parts_in new ≡ put nat_cmp extent.start extent.units (parts_in old) =
      ap parts_in is ∙ ap (λ (zs : List (ℕ × ℕ)). xs ++ (listed_held old.held ++ zs)) r
      ∙ sym (put_back extent.start extent.units low (middle_unit low high) xs (listed_held old.held ++ ys) (omega (arith, h)) p.2 ∙ ap (λ (zs : List (ℕ × ℕ)). xs ++ zs) (put_past extent.start extent.units (middle_unit low high) old.held ys h p.1)) in
      let order = put_in_order extent (middle_unit low high + 1) high ys (record { above = omega (arith, h); some = w.some; below = w.below }) (misses_back extent (listed_held old.held) ys (misses_back extent xs (listed_held old.held ++ ys) f)) p.3 in
      record {
        list = list;
        placed = subst (ArePartsPlaced low high) (sym is) (subst (AreInOrder low high) (ap parts_in is) (in_order list), p.1, p.2, subst (AreInOrder (middle_unit low high + 1) high) (sym r) order, p.4, q);
      }

  pub put_left : extent.start + extent.units ≤ middle_unit low high → (left : Area) → new ≡ record { held = old.held; span = old.span; left = left; right = old.right } → extents_in left ≡ put nat_cmp extent.start extent.units (extents_in old.left) → IsPlaced low (middle_unit low high) left → PutIn low high extent old new
  put_left h left is l q =
      let xs = extents_in old.left in
      let ys = extents_in old.right in
      let back = back_follows extent (middle_unit low high) (end_of low xs) high old.held ys h p.1 (misses_back extent xs (listed_held old.held ++ ys) f) (in_order_back low high xs (listed_held old.held ++ ys) p.0) p.3 in
      let list : parts_in new ≡ put nat_cmp extent.start extent.units (parts_in old) =
      ap parts_in is ∙ ap (λ (zs : List (ℕ × ℕ)). zs ++ (listed_held old.held ++ ys)) l
      ∙ sym (put_front extent.start extent.units (extent.start + extent.units) high xs (listed_held old.held ++ ys) (omega (arith, w.some)) back) in
      let order = put_in_order extent low (middle_unit low high) xs (record { above = w.above; some = w.some; below = h }) (misses_front extent xs (listed_held old.held ++ ys) f) p.2 in
      record {
        list = list;
        placed = subst (ArePartsPlaced low high) (sym is) (subst (AreInOrder low high) (ap parts_in is) (in_order list), p.1, subst (AreInOrder low (middle_unit low high)) (sym l) order, p.3, q, p.5);
      }

  pub put_here : extent.start ≤ middle_unit low high → middle_unit low high < extent.start + extent.units → (held : Held) → held ≡ Taken extent.units extent.start → new ≡ held_by old held → PutIn low high extent old new
  put_here b a held there was =
      let is : new ≡ held_by old (Taken extent.units extent.start) = was ∙ ap (held_by old) there in
      let xs = extents_in old.left in
      let ys = extents_in old.right in
      let none : old.held ≡ Free = no_held extent (middle_unit low high) old.held ys (b, a) p.1 (misses_back extent xs (listed_held old.held ++ ys) f) in
      let before = lies_before extent low (middle_unit low high) xs (omega (arith, a)) p.2 (misses_front extent xs (listed_held old.held ++ ys) f) in
      let list : parts_in new ≡ put nat_cmp extent.start extent.units (parts_in old) =
      ap parts_in is
      ∙ sym (ap (λ (held : Held). put nat_cmp extent.start extent.units (xs ++ (listed_held held ++ ys))) none
      ∙ put_back extent.start extent.units low extent.start xs ys (omega arith) before
      ∙ ap (λ (zs : List (ℕ × ℕ)). xs ++ zs) (put_front extent.start extent.units (middle_unit low high + 1) high [] ys (omega (arith, b)) p.3)) in
      record {
        list = list;
        placed = subst (ArePartsPlaced low high) (sym is) (subst (AreInOrder low high) (ap parts_in is) (in_order list), (b, a), p.2, p.3, p.4, p.5);
      }

-- ---- an extent less

pub record TakenOut (low high start : ℕ) (old new : PartedArea) : Type 0 where
  pub list : parts_in new ≡ without start (parts_in old)
  pub placed : ArePartsPlaced low high new

-- what is found at the middle unit has it
found_held : (start n mid : ℕ) (held : Held) → IsHeldAt mid held → find nat_cmp start (listed_held held) ≡ Some n → mid < start + n
found_held start n mid Free m f = absurd (some_is_not_none n (sym f))
found_held start n mid (Taken units first) m f =
    elim (nat_cmp start first) as (λ r. nat_cmp start first ≡ r → cond (is_eq r) (Some units) None ≡ Some n → mid < start + n) [
      | Less ↦ λ _ f. absurd (some_is_not_none n (sym f))
      | Greater ↦ λ _ f. absurd (some_is_not_none n (sym f))
      | Equal ↦ λ is f.
          let at : start ≡ first = nat_cmp-IsAntisymmetric start first is in
          let as_many : units ≡ n = same_some units n f in
          omega (arith, at, as_many, m.1)
    ] refl f

-- what begins after the middle unit isn't at it
not_held : (start mid : ℕ) (held : Held) → mid < start → IsHeldAt mid held → find nat_cmp start (listed_held held) ≡ None
not_held start mid Free h m = refl
not_held start mid (Taken units first) h m = rw (is_more start first (omega (arith, h, m.0))) refl

-- where it is found at the middle unit, nothing is left there
held_goes : (start n : ℕ) (held : Held) → find nat_cmp start (listed_held held) ≡ Some n → without start (listed_held held) ≡ []
held_goes start n Free f = refl
held_goes start n (Taken units first) f =
    let one : List (ℕ × ℕ) = (first, units) ∷ [] in
    elim (eq_by_cmp nat_cmp start first) as (λ b. cond b (Some units) None ≡ Some n → cond (not b) one [] ≡ []) [
      | true ↦ λ _. refl
      | false ↦ λ f. absurd (some_is_not_none n (sym f))
    ] f

module _ (low high start n : ℕ) (old : PartedArea) (p : ArePartsPlaced low high old) (f : find nat_cmp start (parts_in old) ≡ Some n) where
  abbrev xs : List (ℕ × ℕ)
  xs = extents_in old.left

  abbrev hs : List (ℕ × ℕ)
  hs = listed_held old.held

  abbrev ys : List (ℕ × ℕ)
  ys = extents_in old.right

  parted : without start (xs ++ (hs ++ ys)) ≡ without start xs ++ (without start hs ++ without start ys)
  parted = without_append start xs (hs ++ ys) ∙ ap (λ (zs : List (ℕ × ℕ)). without start xs ++ zs) (without_append start hs ys)

  pub found_right : middle_unit low high < start → find nat_cmp start ys ≡ Some n
  found_right h =
      sym (found_back start hs ys (not_held start (middle_unit low high) old.held h p.1))
      ∙ sym (found_back start xs (hs ++ ys) (not_above start low (middle_unit low high) xs (omega (arith, h)) p.2)) ∙ f

  pub taken_right : middle_unit low high < start → (new : PartedArea) (right : Area) → new ≡ record { held = old.held; span = old.span; left = old.left; right = right } → extents_in right ≡ without start ys → IsPlaced (middle_unit low high + 1) high right → TakenOut low high start old new
  taken_right h new right is r q =
      let no_xs = without_none start xs (not_above start low (middle_unit low high) xs (omega (arith, h)) p.2) in
      let no_hs = without_none start hs (not_held start (middle_unit low high) old.held h p.1) in
      let list : parts_in new ≡ without start (parts_in old) =
      ap parts_in is ∙ ap (λ (zs : List (ℕ × ℕ)). xs ++ (hs ++ zs)) r
      ∙ sym (parted ∙ ap (λ (zs : List (ℕ × ℕ)). zs ++ (without start hs ++ without start ys)) no_xs ∙ ap (λ (zs : List (ℕ × ℕ)). xs ++ (zs ++ without start ys)) no_hs) in
      record {
        list = list;
        placed = subst (ArePartsPlaced low high) (sym is) (
          subst (AreInOrder low high) (sym list ∙ ap parts_in is) (without_in_order start low high (parts_in old) p.0),
          p.1,
          p.2,
          subst (AreInOrder (middle_unit low high + 1) high) (sym r) (without_in_order start (middle_unit low high + 1) high ys p.3),
          p.4,
          q,
        );
      }

  -- what ends at or before the middle unit stands on the left
  pub found_left : start + n ≤ middle_unit low high → find nat_cmp start xs ≡ Some n
  found_left h =
      let later : find nat_cmp start (hs ++ ys) ≡ Some n → find nat_cmp start xs ≡ Some n = λ g.
      elim (find nat_cmp start hs) as (λ r. find nat_cmp start hs ≡ r → find nat_cmp start xs ≡ Some n) [
        | None ↦ λ is. let w = found_within start n (middle_unit low high + 1) high ys p.3 (sym (found_back start hs ys is) ∙ g) in absurd (omega (arith, w.0, h))
        | Some k ↦ λ is.
            let as_many : k ≡ n = same_some k n (sym (found_front start k hs ys is) ∙ g) in
            absurd (omega (arith, found_held start k (middle_unit low high) old.held p.1 is, as_many, h))
      ] refl in
      elim (find nat_cmp start xs) as (λ r. find nat_cmp start xs ≡ r → r ≡ Some n) [
        | None ↦ λ is. sym is ∙ later (sym (found_back start xs (hs ++ ys) is) ∙ f)
        | Some k ↦ λ is. sym (found_front start k xs (hs ++ ys) is) ∙ f
      ] refl

  pub taken_left : start + n ≤ middle_unit low high → (new : PartedArea) (left : Area) → new ≡ record { held = old.held; span = old.span; left = left; right = old.right } → extents_in left ≡ without start xs → IsPlaced low (middle_unit low high) left → TakenOut low high start old new
  taken_left h new left is l q =
      let rest = without_none start (hs ++ ys) (none_after start n low high xs (hs ++ ys) p.0 (found_left h)) in
      let list : parts_in new ≡ without start (parts_in old) =
      ap parts_in is ∙ ap (λ (zs : List (ℕ × ℕ)). zs ++ (hs ++ ys)) l
      ∙ sym (without_append start xs (hs ++ ys) ∙ ap (λ (zs : List (ℕ × ℕ)). without start xs ++ zs) rest) in
      record {
        list = list;
        placed = subst (ArePartsPlaced low high) (sym is) (
          subst (AreInOrder low high) (sym list ∙ ap parts_in is) (without_in_order start low high (parts_in old) p.0),
          p.1,
          subst (AreInOrder low (middle_unit low high)) (sym l) (without_in_order start low (middle_unit low high) xs p.2),
          p.3,
          q,
          p.5,
        );
      }

  pub taken_here : start ≤ middle_unit low high → middle_unit low high < start + n → (new : PartedArea) → new ≡ record { held = Free; span = old.span; left = old.left; right = old.right } → TakenOut low high start old new
  taken_here b a new is =
      let no_xs : find nat_cmp start xs ≡ None =
      elim (find nat_cmp start xs) as (λ r. find nat_cmp start xs ≡ r → r ≡ None) [
        | None ↦ λ _. refl
        | Some k ↦ λ is.
            let as_many : k ≡ n = same_some k n (sym (found_front start k xs (hs ++ ys) is) ∙ f) in
            absurd (omega (arith, (found_within start k low (middle_unit low high) xs p.2 is).2, as_many, a))
      ] refl in
      let no_ys : find nat_cmp start ys ≡ None = not_below start (middle_unit low high + 1) high ys (omega (arith, b)) p.3 in
      let here : find nat_cmp start hs ≡ Some n =
      elim (find nat_cmp start hs) as (λ r. find nat_cmp start hs ≡ r → r ≡ Some n) [
        | None ↦ λ is. sym no_ys ∙ sym (found_back start hs ys is) ∙ sym (found_back start xs (hs ++ ys) no_xs) ∙ f
        | Some k ↦ λ is. sym (found_front start k hs ys is) ∙ sym (found_back start xs (hs ++ ys) no_xs) ∙ f
      ] refl in
      let list : parts_in new ≡ without start (parts_in old) =
      ap parts_in is
      ∙ sym (parted ∙ ap (λ (zs : List (ℕ × ℕ)). zs ++ (without start hs ++ without start ys)) (without_none start xs no_xs)
      ∙ ap (λ (zs : List (ℕ × ℕ)). xs ++ (zs ++ without start ys)) (held_goes start n old.held here)
      ∙ ap (λ (zs : List (ℕ × ℕ)). xs ++ zs) (without_none start ys no_ys)) in
      record {
        list = list;
        placed = subst (ArePartsPlaced low high) (sym is) (subst (AreInOrder low high) (sym list ∙ ap parts_in is) (without_in_order start low high (parts_in old) p.0), tt, p.2, p.3, p.4, p.5);
      }
