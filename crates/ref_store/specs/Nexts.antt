-- The references in the order of their names, one after another.
use Rattle.std.specs.Prelude.{◌≡◌, Bool, true, Option, None, Some}
use Rattle.std.specs.declared.cmp.Ordering.TheVariants.{Less}
use Rattle.std.specs.Ordering.{is_lt}
use Rattle.std.specs.FinMap.{get}
use Rattle.ddc_names.specs.Orders.{ref_name_cmp}
use Rattle.ddc_names.specs.declared.reference.RefName.{RefName}
use Rattle.ref_store.specs.declared.slot.Slot.{Slot}
use Rattle.ref_store.specs.Slots.{Slots}

-- whether a name stands after another; all stand after none
abbrev pub is_behind : Option RefName → RefName → Bool
is_behind None name = true
is_behind (Some before) name = is_lt (ref_name_cmp before name)

-- the reference is there with that slot and stands after a name, and none stands between them
pub record IsNext (slots : Slots) (after : Option RefName) (name : RefName) (slot : Slot) : Type 0 where
  pub there : get slots name ≡ Some slot
  pub behind : is_behind after name ≡ true
  pub first : (other : RefName) → is_behind after other ≡ true → ref_name_cmp other name ≡ Less → get slots other ≡ None

-- the first reference after a name, and none where there is none
abbrev pub Next : Slots → Option RefName → Option (RefName × Slot) → Type 0
Next slots after (Some found) = IsNext slots after found.0 found.1
Next slots after None = (other : RefName) → is_behind after other ≡ true → get slots other ≡ None
