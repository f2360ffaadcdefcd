-- Pages of the finalised references of a namespace, and the references whose time to live is over.
use Rattle.std.specs.Prelude.{ℕ, ◌+◌, ◌-◌, Bool, true, ◌&&◌, nat_le, nat_lt, if◌then◌else◌, List, length, take, Option, None, Some}
use Rattle.std.specs.Option.{option_map}
use Rattle.std.specs.List.{filter, filter_map, slice_get}
use Rattle.std.specs.Ordering.{is_eq, is_lt}
use Rattle.std.specs.FinMap.{entries}
use Rattle.ddc_names.specs.Orders.{name_cmp, spot_cmp}
use Rattle.ddc_names.specs.declared.reference.RefName.{RefName}
use Rattle.ddc_names.specs.declared.reference.RefSpot.{RefSpot}
use Rattle.ref_store.specs.declared.slot.Slot.{Slot}
use Rattle.ref_store.specs.declared.slot.RefRow.{RefRow}
use Rattle.ref_store.specs.declared.slot.SlotPage.{SlotPage}
use Rattle.ref_store.specs.Slots.{Slots}

-- whether a spot stands after another; all stand after none
abbrev pub is_after : Option RefSpot → RefSpot → Bool
is_after None spot = true
is_after (Some from) spot = is_lt (spot_cmp from spot)

-- the references of a namespace after a spot, with their slots, in order
abbrev pub slots_after : Slots → List ℕ → Option RefSpot → List (RefName × Slot)
slots_after slots space from = filter (λ e. is_eq (name_cmp space e.0.space) && is_after from e.0.spot) (entries slots)

-- the row of a reference, where it is finalised
abbrev pub row_of : RefName × Slot → Option RefRow
row_of e = option_map (λ object. record { spot = e.0.spot; object = object }) e.1.done

-- the rows of the finalised references of a namespace after a spot, in order
abbrev pub rows_after : Slots → List ℕ → Option RefSpot → List RefRow
rows_after slots space from = filter_map row_of (slots_after slots space from)

-- the first `count` rows, and the spot of the last of them where there are more
abbrev pub cut_page : List RefRow → ℕ → SlotPage
cut_page rows count = record {
  rows = take count rows;
  next = if nat_lt count (length rows) then option_map (λ row. row.spot) (slice_get rows (count - 1)) else None;
}

-- the page of the first `count` finalised references of a namespace after a spot
abbrev pub page_of : Slots → List ℕ → Option RefSpot → ℕ → SlotPage
page_of slots space from count = cut_page (rows_after slots space from) count

-- the spot of a reference, where `ttl` hours have passed since it was seen
abbrev pub expired_spot : ℕ → ℕ → RefName × Slot → Option RefSpot
expired_spot hour ttl e = if nat_le (e.1.seen + ttl) hour then Some e.0.spot else None

-- the spots of a namespace whose time to live is over, in order
abbrev pub expired_of : Slots → List ℕ → ℕ → ℕ → List RefSpot
expired_of slots space hour ttl = filter_map (expired_spot hour ttl) (slots_after slots space None)
