-- The first entry after a place is the first reference after its name.
use Rattle.std.specs.Prelude.{◌≡◌, ℕ, Bool, true, false, cond, ◌&&◌, List, [], ◌∷◌, Option, None, Some, refl}
use Rattle.std.proofs.Common.{ap, sym, ◌∙◌, subst}
use Rattle.std.specs.Cmp.{eq_by_cmp_equiv}
use Rattle.std.specs.Map.{keys_of}
use Rattle.std.specs.List.{filter, slice_get}
use Rattle.std.specs.List.Sorted.{IsStrictlySortedBy}
use Rattle.std.specs.declared.cmp.Ordering.{Ordering}
use Rattle.std.specs.declared.cmp.Ordering.TheVariants.{Less, Equal, Greater}
use Rattle.std.specs.declared.ops.Bound.{Bound}
use Rattle.std.specs.declared.ops.Bound.TheVariants.{Excluded, Unbounded}
use Rattle.std.specs.Ordering.{is_eq, is_lt, eq_by_cmp}
use Rattle.std.specs.BTreeMap.Range.{entries_between, range_contains}
use Rattle.std.specs.FinMap.{entries, find, get-entries, is_sorted}
use Rattle.std.specs.FinMap.Entries.{below_all}
use Rattle.ddc_names.specs.Orders.{ref_name_cmp, ref_name_total, ref_name_exact}
use Rattle.ddc_names.specs.declared.reference.RefName.{RefName}
use Rattle.ddc_names.specs.declared.reference.RefSpot.{RefSpot}
use Rattle.ref_store.specs.declared.slot.Slot.{Slot}
use Rattle.ref_store.specs.declared.place.Place.{Place}
use Rattle.ref_store.specs.Slots.{Slots}
use Rattle.ref_store.specs.Nexts.{is_behind, Next}
use Rattle.ref_store.specs.inside.Places.{place_cmp, place_of_name, entry_then, by_names, slots_of}
use Rattle.ref_store.proofs.Pages.{entries-slots_of, sorted_by_names}

-- where the range after a name begins
abbrev pub start_of : Option RefName → Bound Place
start_of None = Unbounded
start_of (Some name) = Excluded (place_of_name name)

-- the references after a name
abbrev listed : Option RefName → List (RefName × Slot) → List (RefName × Slot)
listed after es = filter (λ e. is_behind after e.0) es

and_true : (b : Bool) → (b && true) ≡ b
and_true true = refl
and_true false = refl

in_range : (after : Option RefName) (name : RefName) → range_contains place_cmp (start_of after) Unbounded (place_of_name name) ≡ is_behind after name
in_range None name = refl
in_range (Some before) name = and_true (is_lt (ref_name_cmp before name))

cut_off : {A : Type 0} (b : Bool) (x : A) → cond b x x ≡ x
cut_off true x = refl
cut_off false x = refl

by_names_if : (b : Bool) (e : Place × Slot) (es : List (Place × Slot)) → by_names (cond b (e ∷ es) es) ≡ cond b (entry_then e.0.space e.0.spot e.1 (by_names es)) (by_names es)
by_names_if true e es = refl
by_names_if false e es = refl

-- one entry of the range
front : (after : Option RefName) (space : List ℕ) (spot : Option RefSpot) (slot : Slot) (rest es : List (RefName × Slot)) → rest ≡ listed after es
    → cond (range_contains place_cmp (start_of after) Unbounded (record { space = space; spot = spot })) (entry_then space spot slot rest) rest ≡ listed after (entry_then space spot slot es)
front after space None slot rest es h = cut_off _ rest ∙ h
front after space (Some spot) slot rest es h =
    let name : RefName = record { space = space; spot = spot } in
    ap (λ (b : Bool). cond b ((name, slot) ∷ rest) rest) (in_range after name) ∙ ap (λ (r : List (RefName × Slot)). cond (is_behind after name) ((name, slot) ∷ r) r) h

-- the range's entries are the references after the name
ranged : (after : Option RefName) (es : List (Place × Slot)) → by_names (entries_between place_cmp (start_of after) Unbounded es) ≡ listed after (by_names es)
ranged after [] = refl
ranged after (e ∷ es) =
    by_names_if (range_contains place_cmp (start_of after) Unbounded e.0) e (entries_between place_cmp (start_of after) Unbounded es)
    ∙ front after e.0.space e.0.spot e.1 (by_names (entries_between place_cmp (start_of after) Unbounded es)) (by_names es) (ranged after es)

-- ---- the first of a list in order

-- the same of a list of references as of the map that has them
abbrev NextIn : List (RefName × Slot) → Option RefName → Option (RefName × Slot) → Type 0
NextIn es after (Some e) = (find ref_name_cmp e.0 es ≡ Some e.1) × (is_behind after e.0 ≡ true) × ((other : RefName) → is_behind after other ≡ true → ref_name_cmp other e.0 ≡ Less → find ref_name_cmp other es ≡ None)
NextIn es after None = (other : RefName) → is_behind after other ≡ true → find ref_name_cmp other es ≡ None

both : (a b : Bool) → (a && b) ≡ true → (a ≡ true) × (b ≡ true)
both true b h = (refl, h)
both false b h = absurd (cc)

is_less : (o : Ordering) → is_lt o ≡ true → o ≡ Less
is_less Less h = refl
is_less Equal h = absurd (cc)
is_less Greater h = absurd (cc)

is_same : (o : Ordering) → is_eq o ≡ true → o ≡ Equal
is_same Less h = absurd (cc)
is_same Equal h = refl
is_same Greater h = absurd (cc)

-- what is below all isn't found
not_found : (q x : RefName) (es : List (RefName × Slot)) → ref_name_cmp q x ≡ Less → below_all ref_name_cmp x es ≡ true → find ref_name_cmp q es ≡ None
not_found q x [] l h = refl
not_found q x (e ∷ es) l h =
    let parts = both (is_lt (ref_name_cmp x e.0)) (below_all ref_name_cmp x es) h in
    ap (λ (o : Ordering). cond (is_eq o) (Some e.1) (find ref_name_cmp q es)) (ref_name_total.trans q x e.0 l (is_less _ parts.0)) ∙ not_found q x es l parts.1

-- a reference that isn't after the name is passed over by those that are
passed : (after : Option RefName) (e : RefName × Slot) (es : List (RefName × Slot)) (q : RefName) → is_behind after e.0 ≡ false → is_behind after q ≡ true → find ref_name_cmp q (e ∷ es) ≡ find ref_name_cmp q es
passed after e es q f t = split (eq_by_cmp ref_name_cmp q e.0) refl where
  split : (b : Bool) → eq_by_cmp ref_name_cmp q e.0 ≡ b → cond b (Some e.1) (find ref_name_cmp q es) ≡ find ref_name_cmp q es
  split true s = let same : is_behind after q ≡ is_behind after e.0 = ap (is_behind after) (ref_name_exact q e.0 (is_same _ s)) in absurd (cc)
  split false s = refl

one_passed : (after : Option RefName) (e : RefName × Slot) (es : List (RefName × Slot)) (found : Option (RefName × Slot)) → is_behind after e.0 ≡ false → NextIn es after found → NextIn (e ∷ es) after found
one_passed after e es None f h = λ other t. passed after e es other f t ∙ h other t
one_passed after e es (Some x) f h = (passed after e es x.0 f h.1 ∙ h.0, h.1, λ other t l. passed after e es other f t ∙ h.2 other t l)

here : (after : Option RefName) (e : RefName × Slot) (es : List (RefName × Slot)) → is_behind after e.0 ≡ true → below_all ref_name_cmp e.0 es ≡ true → NextIn (e ∷ es) after (Some e)
here after e es t below = (
  ap (λ (b : Bool). cond b (Some e.1) (find ref_name_cmp e.0 es)) ((eq_by_cmp_equiv ref_name_total).refl e.0),
  t,
  λ other behind l. ap (λ (o : Ordering). cond (is_eq o) (Some e.1) (find ref_name_cmp other es)) l ∙ not_found other e.0 es l below,
)

one_more : (after : Option RefName) (e : RefName × Slot) (es : List (RefName × Slot)) (b : Bool) → is_behind after e.0 ≡ b → below_all ref_name_cmp e.0 es ≡ true → NextIn es after (slice_get (listed after es) 0)
    → NextIn (e ∷ es) after (slice_get (cond b (e ∷ listed after es) (listed after es)) 0)
one_more after e es true t below h = here after e es t below
one_more after e es false f below h = one_passed after e es (slice_get (listed after es) 0) f h

first_listed : (after : Option RefName) (es : List (RefName × Slot)) → is_sorted ref_name_cmp es ≡ true → NextIn es after (slice_get (listed after es) 0)
first_listed after [] s = λ other t. refl
first_listed after (e ∷ es) s =
    let parts = both (below_all ref_name_cmp e.0 es) (is_sorted ref_name_cmp es) s in
    one_more after e es (is_behind after e.0) refl parts.0 (first_listed after es parts.1)

-- ---- and of the map

in_map : (slots : Slots) (after : Option RefName) (found : Option (RefName × Slot)) → NextIn (entries slots) after found → Next slots after found
in_map slots after None h = λ other t. get-entries slots other ∙ h other t
in_map slots after (Some e) h = record {
  there = get-entries slots e.0 ∙ h.0;
  behind = h.1;
  first = λ other t l. get-entries slots other ∙ h.2 other t l;
}

pub next_read : (slots : Slots) (after : Option RefName) (start : Bound Place) (found : Option (RefName × Slot)) (es : List (Place × Slot)) → slots_of es ≡ slots → IsStrictlySortedBy place_cmp (keys_of es) → start ≡ start_of after
    → found ≡ slice_get (by_names (entries_between place_cmp start Unbounded es)) 0 → Next slots after found
next_read slots after start found es v s at is =
    let first : found ≡ slice_get (listed after (by_names es)) 0 = is ∙ ap (λ (b : Bound Place). slice_get (by_names (entries_between place_cmp b Unbounded es)) 0) at ∙ ap (λ (xs : List (RefName × Slot)). slice_get xs 0) (ranged after es) in
    in_map slots after found
    (subst (λ (m : Slots). NextIn (entries m) after found) v
    (subst (λ (xs : List (RefName × Slot)). NextIn xs after found) (sym (entries-slots_of es s))
    (subst (NextIn (by_names es) after) (sym first) (first_listed after (by_names es) (sorted_by_names es s)))))
