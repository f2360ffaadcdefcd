-- References of a namespace that are taken away together.
use Rattle.std.specs.Prelude.{ℕ, List, [], ◌∷◌, Option, None, Some}
use Rattle.std.specs.FinMap.{get, remove}
use Rattle.ddc_names.specs.declared.hash.IoHash.{IoHash}
use Rattle.ddc_names.specs.declared.reference.RefSpot.{RefSpot}
use Rattle.ref_store.specs.Slots.{Slots}
use Rattle.ddc_model.specs.State.{done_of}
use Rattle.ddc_model.specs.Entries.{name_at}
use Rattle.ddc_state.specs.Views.{IndexView, in_state}

-- a reference before others, where it serves an object
abbrev pub where_served : Option IoHash → RefSpot → List RefSpot → List RefSpot
where_served (Some object) spot spots = spot ∷ spots
where_served None spot spots = spots

-- those of these references that serve an object
abbrev pub served_of : Slots → List ℕ → List RefSpot → List RefSpot
served_of slots space [] = []
served_of slots space (spot ∷ spots) = where_served (done_of (get slots (name_at space spot))) spot (served_of slots space spots)

-- the others of all references
abbrev pub without_spots : Slots → List ℕ → List RefSpot → Slots
without_spots slots space [] = slots
without_spots slots space (spot ∷ spots) = without_spots (remove slots (name_at space spot)) space spots

-- an index without these references, whose events it still has
abbrev pub without_slots_of : List ℕ → IndexView → List RefSpot → IndexView
without_slots_of space index spots = in_state index (record index.state { slots = without_spots index.state.slots space spots })
