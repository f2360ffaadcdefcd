-- How the ordered map keeps the slots: by places, which are a namespace and maybe a spot in it.
use Rattle.std.specs.Prelude.{ℕ, cond, List, [], ◌∷◌, Option, None, Some}
use Rattle.std.specs.declared.cmp.Ordering.{Ordering}
use Rattle.std.specs.declared.ops.Bound.TheVariants.{Excluded, Unbounded}
use Rattle.std.specs.Ordering.{ordering_then, is_eq}
use Rattle.std.specs.Option.{option_cmp}
use Rattle.std.specs.BTreeMap.Range.{entries_between}
use Rattle.std.specs.FinMap.{from_entries}
use Rattle.ddc_names.specs.Orders.{name_cmp, spot_cmp}
use Rattle.ddc_names.specs.declared.reference.RefName.{RefName}
use Rattle.ddc_names.specs.declared.reference.RefSpot.{RefSpot}
use Rattle.ref_store.specs.declared.slot.Slot.{Slot}
use Rattle.ref_store.specs.declared.place.Place.{Place}
use Rattle.ref_store.specs.Slots.{Slots}

abbrev pub place_of_name : RefName → Place
place_of_name name = record { space = name.space; spot = Some name.spot }

-- by namespace, and then by spot, where no spot comes first
abbrev pub place_cmp : Place → Place → Ordering
place_cmp a b = ordering_then (name_cmp a.space b.space) (option_cmp spot_cmp a.spot b.spot)

-- an entry in front of others, where its place has a spot
abbrev pub entry_then : List ℕ → Option RefSpot → Slot → List (RefName × Slot) → List (RefName × Slot)
entry_then space None slot es = es
entry_then space (Some spot) slot es = (record { space = space; spot = spot }, slot) ∷ es

-- the entries whose places have a spot, by the names of their references
abbrev pub by_names : List (Place × Slot) → List (RefName × Slot)
by_names [] = []
by_names (e ∷ es) = entry_then e.0.space e.0.spot e.1 (by_names es)

-- the finite map of an ordered map's entries
abbrev pub slots_of : List (Place × Slot) → Slots
slots_of es = from_entries (by_names es)

-- the entries up to the first of another namespace
abbrev pub run_of : List ℕ → List (Place × Slot) → List (RefName × Slot)
run_of space [] = []
run_of space (e ∷ es) = cond (is_eq (name_cmp e.0.space space)) (entry_then e.0.space e.0.spot e.1 (run_of space es)) []

-- the entries of the range that begins after a spot, up to the first of another namespace
abbrev pub run_after : List ℕ → Option RefSpot → List (Place × Slot) → List (RefName × Slot)
run_after space from es = run_of space (entries_between place_cmp (Excluded (record { space = space; spot = from })) Unbounded es)

-- what a function gives of an entry, where its place has a spot
abbrev pub at_place : {X : Type 0} → (RefName × Slot → Option X) → List ℕ → Option RefSpot → Slot → Option X
at_place pick space None slot = None
at_place pick space (Some spot) slot = pick (record { space = space; spot = spot }, slot)
