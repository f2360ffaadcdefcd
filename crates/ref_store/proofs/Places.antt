-- Looking up, setting and removing at a place do to the finite map what they do at a name.
use Rattle.std.specs.Prelude.{◌≡◌, ℕ, ◌+◌, ◌-◌, Bool, true, false, cond, if◌then◌else◌, List, [], ◌∷◌, Option, None, Some, is_some, length, refl}
use Rattle.std.proofs.Common.{ap, sym, subst, ◌∙◌, arith}
use Rattle.std.specs.declared.cmp.Ordering.{Ordering}
use Rattle.std.specs.declared.cmp.Ordering.TheVariants.{Less, Equal, Greater}
use Rattle.std.specs.Ordering.{ordering_then, eq_by_cmp, is_eq}
use Rattle.std.specs.Cmp.{eq_by_cmp_equiv}
use Rattle.std.specs.Map.{lookup}
use Rattle.std.specs.BTreeMap.{is_at}
use Rattle.std.specs.FinMap.{get, insert, remove, find, len, get-from_entries, get-insert, get-remove, len-insert, len-remove, same_map}
use Rattle.ddc_names.specs.Orders.{name_cmp, ref_name_cmp, ref_name_total, ref_name_exact}
use Rattle.ddc_names.specs.declared.reference.RefName.{RefName}
use Rattle.ddc_names.specs.declared.reference.RefSpot.{RefSpot}
use Rattle.ref_store.specs.declared.slot.Slot.{Slot}
use Rattle.ref_store.specs.declared.place.Place.{Place}
use Rattle.ref_store.specs.inside.Places.{place_of_name, place_cmp, entry_then, by_names, slots_of}

never_tied : (o : Ordering) → is_eq (ordering_then o Greater) ≡ false
never_tied Less = refl
never_tied Equal = refl
never_tied Greater = refl

find-entry_then : (q : RefName) (space : List ℕ) (spot : Option RefSpot) (slot : Slot) (es : List (RefName × Slot)) (r : Option Slot) → find ref_name_cmp q es ≡ r → find ref_name_cmp q (entry_then space spot slot es) ≡ cond (is_at (place_cmp (place_of_name q)) (record { space = space; spot = spot })) (Some slot) r
find-entry_then q space None slot es r h = h ∙ sym (ap (λ b. cond b (Some slot) r) (never_tied (name_cmp q.space space)))
find-entry_then q space (Some spot) slot es r h = ap (cond (eq_by_cmp ref_name_cmp q (record { space = space; spot = spot })) (Some slot)) h

find-by_names : (es : List (Place × Slot)) (q : RefName) → find ref_name_cmp q (by_names es) ≡ lookup (is_at (place_cmp (place_of_name q))) es
find-by_names [] q = refl
find-by_names (e ∷ es) q = find-entry_then q e.0.space e.0.spot e.1 (by_names es) _ (find-by_names es q)

pub get-slots_of : (es : List (Place × Slot)) (q : RefName) → get (slots_of es) q ≡ lookup (is_at (place_cmp (place_of_name q))) es
get-slots_of es q = get-from_entries ref_name_total (by_names es) q ∙ find-by_names es q

pub found : (es : List (Place × Slot)) (place : Place) (s : RefName) → place ≡ place_of_name s → lookup (is_at (place_cmp place)) es ≡ get (slots_of es) s
found es place s at = ap (λ (p : Place). lookup (is_at (place_cmp p)) es) at ∙ sym (get-slots_of es s)

-- at each place fs has what es has, but for one place, which has n
abbrev pub Updates : List (Place × Slot) → List (Place × Slot) → Place → Option Slot → Type 0
Updates es fs place n = (q : Place) → lookup (is_at (place_cmp q)) fs ≡ cond (is_at (place_cmp place) q) n (lookup (is_at (place_cmp q)) es)

updated : (es fs : List (Place × Slot)) (place : Place) (s : RefName) (n : Option Slot) → place ≡ place_of_name s → Updates es fs place n → (q : RefName) → get (slots_of fs) q ≡ cond (eq_by_cmp ref_name_cmp q s) n (get (slots_of es) q)
updated es fs place s n at h q =
    get-slots_of fs q ∙ subst (λ (p : Place). Updates es fs p n) at h (place_of_name q)
    ∙ ap (λ b. cond b n (lookup (is_at (place_cmp (place_of_name q))) es)) ((eq_by_cmp_equiv ref_name_total).symm s q)
    ∙ ap (cond (eq_by_cmp ref_name_cmp q s) n) (sym (get-slots_of es q))

pub one_set : (es fs : List (Place × Slot)) (place : Place) (s : RefName) (n : Slot) → place ≡ place_of_name s → Updates es fs place (Some n) → slots_of fs ≡ insert (slots_of es) s n
one_set es fs place s n at h = same_map ref_name_total ref_name_exact _ _ (λ q. updated es fs place s (Some n) at h q ∙ sym (get-insert ref_name_total (slots_of es) s n q))

pub one_removed : (es fs : List (Place × Slot)) (place : Place) (s : RefName) → place ≡ place_of_name s → Updates es fs place None → slots_of fs ≡ remove (slots_of es) s
one_removed es fs place s at h = same_map ref_name_total ref_name_exact _ _ (λ q. updated es fs place s None at h q ∙ sym (get-remove ref_name_total (slots_of es) s q))

one_more : (b : Bool) (m old new : ℕ) → m ≡ old → new ≡ old + (if b then 0 else 1) → cond b m (m + 1) ≡ new
one_more true m old new h k = omega arith
one_more false m old new h k = omega arith

one_less : (b : Bool) (m old new : ℕ) → m ≡ old → new + (if b then 1 else 0) ≡ old → cond b (m - 1) m ≡ new
one_less true m old new h k = omega arith
one_less false m old new h k = omega arith

pub count_set : (es fs : List (Place × Slot)) (s : RefName) (n : Slot) (before : Option Slot) → slots_of fs ≡ insert (slots_of es) s n → before ≡ get (slots_of es) s → length fs ≡ length es + (if is_some before then 0 else 1) → len (slots_of es) ≡ length es → len (slots_of fs) ≡ length fs
count_set es fs s n before set was more count =
    ap len set ∙ len-insert ref_name_total (slots_of es) s n
    ∙ one_more (is_some (get (slots_of es) s)) (len (slots_of es)) (length es) (length fs) count (more ∙ ap (λ (o : Option Slot). length es + (if is_some o then 0 else 1)) was)

pub count_removed : (es fs : List (Place × Slot)) (s : RefName) (before : Option Slot) → slots_of fs ≡ remove (slots_of es) s → before ≡ get (slots_of es) s → length fs + (if is_some before then 1 else 0) ≡ length es → len (slots_of es) ≡ length es → len (slots_of fs) ≡ length fs
count_removed es fs s before removed was less count =
    ap len removed ∙ len-remove ref_name_total (slots_of es) s
    ∙ one_less (is_some (get (slots_of es) s)) (len (slots_of es)) (length es) (length fs) count (ap (λ (o : Option Slot). length fs + (if is_some o then 1 else 0)) (sym was) ∙ less)
