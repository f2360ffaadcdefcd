-- What is known of the references that were looked at. They are looked at in the order of their names.
use Rattle.std.specs.Prelude.{◌≡◌, ℕ, Bool, true, false, List, length, Option, None, Some}
use Rattle.std.specs.List.{filter}
use Rattle.std.specs.FinMap.{get, len, entries}
use Rattle.ddc_names.specs.declared.hash.IoHash.{IoHash}
use Rattle.ddc_names.specs.declared.reference.RefName.{RefName}
use Rattle.ref_store.specs.declared.slot.Slot.{Slot}
use Rattle.ref_store.specs.Slots.{Slots}
use Rattle.ref_store.specs.Nexts.{is_behind}
use Rattle.ddc_model.specs.State.{State}
use Rattle.ddc_model.specs.Closure.{links_in, IsWhole}
use Rattle.needs_resolver.specs.Walking.{Met, IsIdle, most_reads}

-- the reference isn't finalised, or the closure of its object is whole
abbrev pub IsWholeAt : State → RefName → Slot → Type 0
IsWholeAt s name slot = (hash : IoHash) → slot.done ≡ Some hash → IsWhole (links_in s name.space) hash

-- whether the reference is finalised and a blob of its closure isn't there
abbrev pub Lacks : State → RefName → Slot → Bool → Type 0
Lacks s name slot true = (hash : IoHash) × (slot.done ≡ Some hash) × (IsWhole (links_in s name.space) hash → ⊥)
Lacks s name slot false = IsWholeAt s name slot

-- all references up to this one are whole
abbrev pub AreWholeUpTo : State → Option RefName → Type 0
AreWholeUpTo s last = (other : RefName) (slot : Slot) → is_behind last other ≡ false → get s.slots other ≡ Some slot → IsWholeAt s other slot

-- the walk can go on in the namespace of this reference; before the first, in any
abbrev pub IsIdleAfter : State → Option RefName → Met → Type 0
IsIdleAfter s None met = (space : List ℕ) → IsIdle (links_in s space) met
IsIdleAfter s (Some last) met = IsIdle (links_in s last.space) met

-- how many objects can still be read after this reference
abbrev pub reads_after : State → Option RefName → Met → ℕ
reads_after s None met = len s.blobs
reads_after s (Some last) met = most_reads s last.space met

-- how many references stand after this one
abbrev pub count_behind : Slots → Option RefName → ℕ
count_behind slots last = length (filter (λ e. is_behind last e.0) (entries slots))
