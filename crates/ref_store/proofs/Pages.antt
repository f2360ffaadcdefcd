-- The run of a namespace in the ordered map is its references after a spot, in the order of the finite map.
use Rattle.std.specs.Prelude.{◌≡◌, ℕ, Bool, true, false, cond, ◌&&◌, List, [], ◌∷◌, Option, None, Some, refl, ◌⊎◌, T}
use Rattle.std.specs.Cmp.{eq_by_cmp_equiv}
use Rattle.std.specs.Map.{keys_of}
use Rattle.std.specs.List.Sorted.{IsStrictlySortedBy}
use Rattle.std.proofs.lemmas.Map.Keys.{sorted_head, sorted_tail}
use Rattle.std.proofs.Common.{ap, sym, ◌∙◌, subst, inl, inr}
use Rattle.std.specs.declared.cmp.Ordering.{Ordering}
use Rattle.std.specs.declared.cmp.Ordering.TheVariants.{Less, Equal, Greater}
use Rattle.std.specs.declared.ops.Bound.TheVariants.{Excluded, Unbounded}
use Rattle.std.specs.Ordering.{is_eq, is_lt, ordering_then}
use Rattle.std.specs.Option.{option_cmp}
use Rattle.std.specs.List.{filter, AllByRecursion}
use Rattle.std.specs.BTreeMap.Range.{entries_between}
use Rattle.std.specs.FinMap.{entries, from_sorted, is_sorted, same_map, get-from_entries, get-from_sorted, entries-from_sorted}
use Rattle.std.specs.FinMap.Entries.{below_all}
use Rattle.ddc_names.specs.Orders.{name_cmp, spot_cmp, ref_name_cmp, name_total, name_exact, ref_name_total, ref_name_exact}
use Rattle.ddc_names.specs.declared.reference.RefSpot.{RefSpot}
use Rattle.ddc_names.specs.declared.reference.RefName.{RefName}
use Rattle.ref_store.specs.declared.slot.Slot.{Slot}
use Rattle.ref_store.specs.declared.place.Place.{Place}
use Rattle.ref_store.specs.Slots.{Slots}
use Rattle.ref_store.specs.Pages.{is_after, slots_after}
use Rattle.ref_store.specs.inside.Places.{place_cmp, place_of_name, entry_then, by_names, slots_of, run_of, run_after}

after_by : (from : Option RefSpot) (spot : RefSpot) → is_after from spot ≡ is_lt (option_cmp spot_cmp from (Some spot))
after_by None spot = refl
after_by (Some from) spot = refl

cut_off : {A : Type 0} (b : Bool) (x : A) → x ≡ cond b x x
cut_off true x = refl
cut_off false x = refl

run_if : (b : Bool) (space : List ℕ) (e : Place × Slot) (es : List (Place × Slot)) → run_of space (cond b (e ∷ es) es) ≡ cond b (cond (is_eq (name_cmp e.0.space space)) (entry_then e.0.space e.0.spot e.1 (run_of space es)) []) (run_of space es)
run_if true space e es = refl
run_if false space e es = refl

abbrev listed_after : List ℕ → Option RefSpot → List (RefName × Slot) → List (RefName × Slot)
listed_after space from es = filter (λ e. is_eq (name_cmp space e.0.space) && is_after from e.0.spot) es

-- one entry of the finite map
front : (space : List ℕ) (from : Option RefSpot) (other : List ℕ) (spot : Option RefSpot) (slot : Slot) (es : List (RefName × Slot))
    → listed_after space from (entry_then other spot slot es) ≡ cond (is_eq (name_cmp space other) && is_lt (option_cmp spot_cmp from spot)) (entry_then other spot slot (listed_after space from es)) (listed_after space from es)
front space from other None slot es = cut_off _ _
front space from other (Some spot) slot es = ap (λ (b : Bool). cond (is_eq (name_cmp space other) && b) ((record { space = other; spot = spot }, slot) ∷ listed_after space from es) (listed_after space from es)) (after_by from spot)

-- what one entry adds on both sides; o compares the namespaces, p the spots, and b says that the namespaces tie
one_entry : {A : Type 0} (o p : Ordering) (b : Bool) (listed run : List A) (add : List A → List A) → b ≡ is_eq o → listed ≡ run → (o ≡ Less → listed ≡ []) → cond (is_eq o && is_lt p) (add listed) listed ≡ cond (is_lt (ordering_then o p) && true) (cond b (add run) []) run
one_entry Less p b listed run add s h l = l refl ∙ sym (ap (λ (x : Bool). cond x (add run) []) s)
one_entry Equal Less b listed run add s h l = ap add h ∙ sym (ap (λ (x : Bool). cond x (add run) []) s)
one_entry Equal Equal b listed run add s h l = h
one_entry Equal Greater b listed run add s h l = h
one_entry Greater p b listed run add s h l = h

first_less : (o p : Ordering) → ordering_then o p ≡ Less → (o ≡ Less) ⊎ (o ≡ Equal)
first_less Less p h = inl refl
first_less Equal p h = inr refl
first_less Greater p h = absurd (cc)

still_less : (a b c : List ℕ) (p : Ordering) → name_cmp a b ≡ Less → ordering_then (name_cmp b c) p ≡ Less → name_cmp a c ≡ Less
still_less a b c p h k = elim (first_less (name_cmp b c) p k) [ inl l ↦ name_total.trans a b c h l | inr e ↦ subst (λ (x : List ℕ). name_cmp a x ≡ Less) (name_exact b c e) h ]

-- after a later namespace there is nothing
later_none : (space : List ℕ) (from : Option RefSpot) (place : Place) (es : List (Place × Slot)) → name_cmp space place.space ≡ Less → AllByRecursion (λ y. place_cmp place y ≡ Less) (keys_of es) → listed_after space from (by_names es) ≡ []
later_none space from place [] h all = refl
later_none space from place (e ∷ es) h all =
    front space from e.0.space e.0.spot e.1 (by_names es)
    ∙ ap (λ (o : Ordering). cond (is_eq o && is_lt (option_cmp spot_cmp from e.0.spot)) (entry_then e.0.space e.0.spot e.1 (listed_after space from (by_names es))) (listed_after space from (by_names es))) (still_less space place.space e.0.space _ h all.0)
    ∙ later_none space from place es h all.1

same_slots : (space : List ℕ) (from : Option RefSpot) (es : List (Place × Slot)) → IsStrictlySortedBy place_cmp (keys_of es) → listed_after space from (by_names es) ≡ run_after space from es
same_slots space from [] s = refl
same_slots space from (e ∷ es) s =
    front space from e.0.space e.0.spot e.1 (by_names es)
    ∙ one_entry (name_cmp space e.0.space) (option_cmp spot_cmp from e.0.spot) (is_eq (name_cmp e.0.space space)) _ _ (entry_then e.0.space e.0.spot e.1) ((eq_by_cmp_equiv name_total).symm e.0.space space)
    (same_slots space from es (sorted_tail place_cmp e.0 (keys_of es) s)) (λ l. later_none space from e.0 es l (sorted_head place_cmp e.0 (keys_of es) s))
    ∙ sym (run_if _ space e (entries_between place_cmp (Excluded (record { space = space; spot = from })) Unbounded es))

below_step : (name : RefName) (space : List ℕ) (spot : Option RefSpot) (slot : Slot) (es : List (RefName × Slot)) → place_cmp (place_of_name name) (record { space = space; spot = spot }) ≡ Less → below_all ref_name_cmp name es ≡ true → below_all ref_name_cmp name (entry_then space spot slot es) ≡ true
below_step name space None slot es l h = h
below_step name space (Some spot) slot es l h = ap (λ (o : Ordering). is_lt o && below_all ref_name_cmp name es) l ∙ h

below_by_names : (name : RefName) (es : List (Place × Slot)) → AllByRecursion (λ y. place_cmp (place_of_name name) y ≡ Less) (keys_of es) → below_all ref_name_cmp name (by_names es) ≡ true
below_by_names name [] all = refl
below_by_names name (e ∷ es) all = below_step name e.0.space e.0.spot e.1 (by_names es) all.0 (below_by_names name es all.1)

sorted_step : (space : List ℕ) (spot : Option RefSpot) (slot : Slot) (es : List (Place × Slot)) → AllByRecursion (λ y. place_cmp (record { space = space; spot = spot }) y ≡ Less) (keys_of es) → is_sorted ref_name_cmp (by_names es) ≡ true → is_sorted ref_name_cmp (entry_then space spot slot (by_names es)) ≡ true
sorted_step space None slot es all h = h
sorted_step space (Some spot) slot es all h = ap (λ (b : Bool). b && is_sorted ref_name_cmp (by_names es)) (below_by_names (record { space = space; spot = spot }) es all) ∙ h

pub sorted_by_names : (es : List (Place × Slot)) → IsStrictlySortedBy place_cmp (keys_of es) → is_sorted ref_name_cmp (by_names es) ≡ true
sorted_by_names [] s = refl
sorted_by_names (e ∷ es) s = sorted_step e.0.space e.0.spot e.1 es (sorted_head place_cmp e.0 (keys_of es) s) (sorted_by_names es (sorted_tail place_cmp e.0 (keys_of es) s))

-- the finite map's entries are the ordered map's, by names
pub entries-slots_of : (es : List (Place × Slot)) → IsStrictlySortedBy place_cmp (keys_of es) → entries (slots_of es) ≡ by_names es
entries-slots_of es s =
    let t : T (is_sorted ref_name_cmp (by_names es)) = subst T (sym (sorted_by_names es s)) tt in
    ap entries (same_map ref_name_total ref_name_exact (slots_of es) (from_sorted (by_names es)) (λ q. get-from_entries ref_name_total (by_names es) q ∙ sym (get-from_sorted ref_name_cmp (by_names es) q t)))
    ∙ entries-from_sorted ref_name_cmp (by_names es) t

pub run_read : (slots : Slots) (space : List ℕ) (from : Option RefSpot) (es : List (Place × Slot)) → slots_of es ≡ slots → IsStrictlySortedBy place_cmp (keys_of es) → run_after space from es ≡ slots_after slots space from
run_read slots space from es v s = sym (same_slots space from es s) ∙ ap (listed_after space from) (sym (entries-slots_of es s)) ∙ ap (λ (m : Slots). slots_after m space from) v
