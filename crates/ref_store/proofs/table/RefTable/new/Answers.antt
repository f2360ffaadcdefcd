use Rattle.std.proofs.Common.{ap, sym, ◌∙◌, List, length}
use Rattle.std.specs.FinMap as map
use Rattle.ddc_names.specs.Orders.{ref_name_cmp}
use Rattle.ref_store.specs.declared.slot.Slot.{Slot}
use Rattle.ref_store.specs.declared.place.Place.{Place}
use Rattle.ref_store.specs.inside.Places.{slots_of}
use Rattle.ref_store.proofs.table.RefTable.new.Goals as goal

pub invariant_of-result : goal.invariant_of-result
invariant_of-result c =
    ap (λ (es : List (Place × Slot)). map.len (slots_of es)) c.new.ensures.empty ∙ map.len-empty ref_name_cmp Slot
    ∙ sym (ap (λ (es : List (Place × Slot)). length es) c.new.ensures.empty)
