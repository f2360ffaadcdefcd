-- The table as contracts see it: a finite map from the names of references to their slots.
-- `get`, `insert`, `remove` and `len` of such maps are the toolchain's `FinMap`.
use Rattle.std.specs.Prelude.{ℕ, Option, refl}
use Rattle.std.specs.Coded.{Coded, code_by, coded×, coded_ℕ, coded_option}
use Rattle.std.specs.FinMap.{FinMap, code}
use Rattle.ddc_names.specs.Orders.{ref_name_cmp, coded_ref_name, coded_io_hash}
use Rattle.ddc_names.specs.declared.hash.IoHash.{IoHash}
use Rattle.ref_store.specs.declared.slot.Slot.{Slot}

-- slots by the names of their references, in the order of the names
abbrev pub Slots : Type 0
Slots = FinMap ref_name_cmp Slot

abbrev pub coded_slot : Coded Slot
coded_slot = code_by (Option IoHash × (Option IoHash × ℕ)) (coded× (coded_option coded_io_hash) (coded× (coded_option coded_io_hash) coded_ℕ)) (λ slot. (slot.done, (slot.pending, slot.seen))) (λ p. record { done = p.0; pending = p.1.0; seen = p.1.1 }) (λ _. refl)

abbrev pub coded_slots : Coded Slots
coded_slots = code coded_ref_name coded_slot
