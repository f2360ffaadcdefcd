-- Events are noted beside the other changes of an entry.
use Rattle.std.specs.Prelude.{◌≡◌, ℕ, Bool, true, false, Option, None, Some, is_some, if◌then◌else◌, refl}
use Rattle.std.specs.FinMap.{get, remove}
use Rattle.ddc_names.specs.declared.hash.IoHash.{IoHash}
use Rattle.ddc_names.specs.declared.reference.RefName.{RefName}
use Rattle.ref_store.specs.declared.slot.Slot.{Slot}
use Rattle.replication_log.specs.declared.event.EventOp.TheVariants.{Added}
use Rattle.ddc_model.specs.State.{State, done_of, pending_of}
use Rattle.ddc_model.specs.Entries.{is_hash, with_slot, with_pin, with_noted, noted_added, noted_deleted, noted_put}
use Rattle.ddc_state.specs.inside.Noted.{noted_where}

-- the references stay
slots_stay : (b : Bool) (s : State) (name : RefName) (hash : IoHash) → (if b then s else with_noted s name (Added hash)).slots ≡ s.slots
slots_stay true s name hash = refl
slots_stay false s name hash = refl

pub added_slots : (s : State) (name : RefName) (old : Option IoHash) (hash : IoHash) → (noted_added s name old hash).slots ≡ s.slots
added_slots s name old hash = slots_stay (is_hash old hash) s name hash

pub where_slots : (whole : Bool) (s : State) (name : RefName) (old : Option IoHash) (root : IoHash) → (noted_where whole s name old root).slots ≡ s.slots
where_slots true s name old root = added_slots s name old root
where_slots false s name old root = refl

-- a reference with an object is there
pub waits : (o : Option Slot) (hash : IoHash) → is_hash (pending_of o) hash ≡ true → is_some o ≡ true
waits None hash h = absurd (cc)
waits (Some slot) hash h = refl

-- what a put notes, by what the reference served
pub put_is : (whole : Bool) (s : State) (name : RefName) (root : IoHash) → noted_where whole s name (done_of (get s.slots name)) root ≡ noted_put s name root whole
put_is true s name root = refl
put_is false s name root = refl

-- a new reference may get its slot before the event is noted
pub new_put : (whole : Bool) (s : State) (name : RefName) (root : IoHash) (slot : Slot) → noted_where whole (with_slot s name slot) name None root ≡ with_slot (noted_where whole s name None root) name slot
new_put true s name root slot = refl
new_put false s name root slot = refl

-- one that goes may go after it
pub deleted_then : (s : State) (name : RefName) (old : Option IoHash)
    → ◌≡◌ {A = State} (record (noted_deleted s name old) { slots = remove (noted_deleted s name old).slots name }) (noted_deleted (record s { slots = remove s.slots name }) name old)
deleted_then s name None = refl
deleted_then s name (Some old) = refl

-- and the root of a put may be pinned after it
pin_then : (b : Bool) (s : State) (name : RefName) (root : IoHash) (slot : Slot) (hour : ℕ)
    → with_pin (with_slot (if b then s else with_noted s name (Added root)) name slot) name.space root hour ≡ with_slot (if b then with_pin s name.space root hour else with_noted (with_pin s name.space root hour) name (Added root)) name slot
pin_then true s name root slot hour = refl
pin_then false s name root slot hour = refl

pub pinned_then : (whole : Bool) (s : State) (name : RefName) (root : IoHash) (slot : Slot) (hour : ℕ)
    → with_pin (with_slot (noted_put s name root whole) name slot) name.space root hour ≡ with_slot (noted_put (with_pin s name.space root hour) name root whole) name slot
pinned_then true s name root slot hour = pin_then (is_hash (done_of (get s.slots name)) root) s name root slot hour
pinned_then false s name root slot hour = refl
