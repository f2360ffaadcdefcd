-- Which entries are legal in a state, and what each leaves.
use Rattle.std.specs.Prelude.{ℕ, ◌+◌, ◌-◌, ◌^◌, Bool, true, false, not, ◌&&◌, ◌||◌, List, [], ◌∷◌, length, Option, None, Some, is_some, max, nat_le, nat_eq, if◌then◌else◌}
use Rattle.std.specs.FinMap.{FinMap, get, insert, remove}
use Rattle.std.specs.Ordering.{is_lt}
use Rattle.std.specs.declared.cmp.Ordering.{Ordering}
use lib.Pointwise.{pointwise}
use Rattle.ddc_names.specs.Orders.{io_hash_cmp, spot_cmp}
use Rattle.ddc_names.specs.declared.hash.IoHash.{IoHash}
use Rattle.ddc_names.specs.declared.reference.RefName.{RefName}
use Rattle.ddc_names.specs.declared.reference.RefSpot.{RefSpot}
use Rattle.ref_store.specs.declared.slot.Slot.{Slot}
use Rattle.replication_log.specs.declared.event.EventOp.{EventOp}
use Rattle.replication_log.specs.declared.event.EventOp.TheVariants.{Added, Deleted}
use Rattle.replication_log.specs.Logs.{can_follow, with_event}
use Rattle.ddc_model.specs.declared.rows.Blob.{Blob}
use Rattle.ddc_model.specs.declared.rows.BlobName.{BlobName}
use Rattle.ddc_model.specs.declared.rows.Extent.{Extent}
use Rattle.ddc_model.specs.declared.entry.Stored.{Stored}
use Rattle.ddc_model.specs.declared.entry.Entry.{Entry}
use Rattle.ddc_model.specs.declared.entry.Entry.TheVariants.{Space, Upload, Repin, Put, Finalise, Delete, Touch, Expire, Swept, Cursor, BaseHour, BaseSlot, BaseEvent}
use Rattle.ddc_model.specs.Keys.{blob_cmp}
use Rattle.ddc_model.specs.Limits.{most_bytes, most_links}
use Rattle.ddc_model.specs.State.{State, blob_name, has_blob, has_space, done_of, pending_of, log_of}
use Rattle.ddc_model.specs.Extents.{extent, is_free, units_of}

abbrev pub same_hash : IoHash → IoHash → Bool
same_hash a b = pointwise nat_eq a.0 b.0

-- the hash is there, and is this one
abbrev pub is_hash : Option IoHash → IoHash → Bool
is_hash (Some found) hash = same_hash found hash
is_hash None hash = false

-- ---- what is legal

-- a time of 1 to 1,000,000 hours
abbrev pub is_time : ℕ → Bool
is_time hours = nat_le 1 hours && nat_le hours 1000000

-- where the bytes of a blob that an entry adds stand
abbrev pub extent_of : Stored → Extent
extent_of blob = extent blob.start (units_of blob.len)

-- a blob that isn't there, of a length and with links within the limits, whose units are free
abbrev pub is_fresh : State → List ℕ → Stored → Bool
is_fresh s space blob = not (has_blob s space blob.hash) && nat_le blob.len most_bytes && nat_le (length blob.links) most_links && is_free s (extent_of blob)

-- the root is there, or is the fresh blob
abbrev pub is_root : State → List ℕ → IoHash → Option Stored → Bool
is_root s space root None = has_blob s space root
is_root s space root (Some blob) = same_hash blob.hash root && is_fresh s space blob

-- each of these stands after the one before it
abbrev pub ascends_after : {A : Type 0} → (A → A → Ordering) → A → List A → Bool
ascends_after cmp a [] = true
ascends_after cmp a (b ∷ bs) = is_lt (cmp a b) && ascends_after cmp b bs

abbrev pub ascends : {A : Type 0} → (A → A → Ordering) → List A → Bool
ascends cmp [] = true
ascends cmp (a ∷ bs) = ascends_after cmp a bs

abbrev pub name_at : List ℕ → RefSpot → RefName
name_at space spot = record { space = space; spot = spot }

-- these references of a namespace are all there
abbrev pub has_slots : State → List ℕ → List RefSpot → Bool
has_slots s space [] = true
has_slots s space (spot ∷ spots) = is_some (get s.slots (name_at space spot)) && has_slots s space spots

-- so are these blobs
abbrev pub has_blobs : State → List ℕ → List IoHash → Bool
has_blobs s space [] = true
has_blobs s space (hash ∷ hashes) = has_blob s space hash && has_blobs s space hashes

-- ---- how many events an entry notes

-- one where a reference serves another object than before
abbrev pub count_added : Option IoHash → IoHash → ℕ
count_added old hash = if is_hash old hash then 0 else 1

-- one where it served an object
abbrev pub count_deleted : Option IoHash → ℕ
count_deleted (Some old) = 1
count_deleted None = 0

abbrev pub count_all_deleted : State → List ℕ → List RefSpot → ℕ
count_all_deleted s space [] = 0
count_all_deleted s space (spot ∷ spots) = count_deleted (done_of (get s.slots (name_at space spot))) + count_all_deleted s space spots

-- the numbers of a namespace's events have room for so many more
abbrev pub has_numbers : State → List ℕ → ℕ → Bool
has_numbers s space count = nat_le ((log_of s space).last + count) (2 ^ 64 - 1)

-- so they have for the events that an entry notes
abbrev pub has_room_for_events : State → Entry → Bool
has_room_for_events s (Put name root fresh true hour) = has_numbers s name.space (count_added (done_of (get s.slots name)) root)
has_room_for_events s (Finalise name hash hour) = has_numbers s name.space (count_added (done_of (get s.slots name)) hash)
has_room_for_events s (Delete name hour) = has_numbers s name.space (count_deleted (done_of (get s.slots name)))
has_room_for_events s (Expire space spots hour) = has_numbers s space (count_all_deleted s space spots)
has_room_for_events s entry = true

-- ---- whether an entry is legal in a state

-- as far as it isn't a matter of the room for events
abbrev pub fits_state : State → Entry → Bool
fits_state s (Space space ttl pin) = is_time ttl && is_time pin
fits_state s (Upload space hour blob) = has_space s space && is_fresh s space blob
fits_state s (Repin space hash hour) = has_space s space && has_blob s space hash
fits_state s (Put name root fresh whole hour) = has_space s name.space && is_root s name.space root fresh
fits_state s (Finalise name hash hour) = has_space s name.space && is_hash (pending_of (get s.slots name)) hash
fits_state s (Delete name hour) = has_space s name.space && is_some (get s.slots name)
fits_state s (Touch name hour) = has_space s name.space && is_some (done_of (get s.slots name))
fits_state s (Expire space spots hour) = has_space s space && ascends spot_cmp spots && has_slots s space spots
fits_state s (Swept space hashes) = has_space s space && ascends io_hash_cmp hashes && has_blobs s space hashes
fits_state s (Cursor space cursor) = has_space s space
fits_state s (BaseHour hour) = true
fits_state s (BaseSlot name done pending seen) = has_space s name.space && not (is_some (get s.slots name)) && (is_some done || is_some pending)
fits_state s (BaseEvent name number op) = has_space s name.space && can_follow (log_of s name.space) number

abbrev pub legal : State → Entry → Bool
legal s entry = has_room_for_events s entry && fits_state s entry

-- ---- what each leaves

-- the state at this hour, where it is later
abbrev pub at_hour : State → ℕ → State
at_hour s hour = record s { hour = max s.hour hour }

abbrev pub blob_of : Stored → ℕ → Blob
blob_of blob hour = record { row = record { len = blob.len; at = hour; extent = extent_of blob }; links = blob.links }

abbrev pub with_blob : State → List ℕ → Stored → ℕ → State
with_blob s space blob hour = record s { blobs = insert s.blobs (blob_name space blob.hash) (blob_of blob hour) }

-- a blob pinned from this hour on, where it is later
abbrev pub pinned : FinMap blob_cmp Blob → BlobName → ℕ → Option Blob → FinMap blob_cmp Blob
pinned blobs name hour (Some blob) = insert blobs name (record blob { row = record blob.row { at = max blob.row.at hour } })
pinned blobs name hour None = blobs

abbrev pub with_pin : State → List ℕ → IoHash → ℕ → State
with_pin s space hash hour = record s { blobs = pinned s.blobs (blob_name space hash) hour (get s.blobs (blob_name space hash)) }

-- the root of a put is added, or pinned
abbrev pub with_put_root : State → List ℕ → IoHash → Option Stored → ℕ → State
with_put_root s space root None hour = with_pin s space root hour
with_put_root s space root (Some blob) hour = with_blob s space blob hour

abbrev pub with_slot : State → RefName → Slot → State
with_slot s name slot = record s { slots = insert s.slots name slot }

-- a reference after a put: the root is finalised, or pending beside what is finalised
abbrev pub slot_after : Option Slot → IoHash → Bool → ℕ → Slot
slot_after slot root true hour = record { done = Some root; pending = None; seen = hour }
slot_after slot root false hour = record { done = done_of slot; pending = Some root; seen = hour }

-- a reference that was read at this hour
abbrev pub with_touch : State → RefName → ℕ → Option Slot → State
with_touch s name hour (Some slot) = with_slot s name (record slot { seen = hour })
with_touch s name hour None = s

-- ---- events

-- the log of the reference's namespace has an event more, with this number
abbrev pub with_numbered : State → RefName → ℕ → EventOp → State
with_numbered s name number op = record s { logs = insert s.logs name.space (with_event (log_of s name.space) (record { number = number; spot = name.spot; op = op })) }

-- with the next number
abbrev pub with_noted : State → RefName → EventOp → State
with_noted s name op = with_numbered s name ((log_of s name.space).last + 1) op

-- a reference that served this object before, or none, serves another one
abbrev pub noted_added : State → RefName → Option IoHash → IoHash → State
noted_added s name old hash = if is_hash old hash then s else with_noted s name (Added hash)

-- it serves nothing any more
abbrev pub noted_deleted : State → RefName → Option IoHash → State
noted_deleted s name (Some old) = with_noted s name Deleted
noted_deleted s name None = s

-- a put that finalises its object is noted
abbrev pub noted_put : State → RefName → IoHash → Bool → State
noted_put s name root true = noted_added s name (done_of (get s.slots name)) root
noted_put s name root false = s

-- a reference is taken away
abbrev pub without_slot : State → RefName → State
without_slot s name = noted_deleted (record s { slots = remove s.slots name }) name (done_of (get s.slots name))

-- these are, one after another
abbrev pub without_slots : State → List ℕ → List RefSpot → State
without_slots s space [] = s
without_slots s space (spot ∷ spots) = without_slots (without_slot s (name_at space spot)) space spots

abbrev pub without_blob : State → List ℕ → IoHash → State
without_blob s space hash = record s { blobs = remove s.blobs (blob_name space hash) }

-- what is kept of blobs, without these of a namespace
abbrev pub without_hashes : {X : Type 0} → FinMap blob_cmp X → List ℕ → List IoHash → FinMap blob_cmp X
without_hashes all space [] = all
without_hashes all space (hash ∷ hashes) = without_hashes (remove all (blob_name space hash)) space hashes

-- these blobs are removed
abbrev pub without_blobs : State → List ℕ → List IoHash → State
without_blobs s space hashes = record s { blobs = without_hashes s.blobs space hashes }

-- ---- what an entry leaves
abbrev pub after : State → Entry → State
after s (Space space ttl pin) = record s { spaces = insert s.spaces space (record { ttl = ttl; pin = pin }) }
after s (Upload space hour blob) = at_hour (with_blob s space blob hour) hour
after s (Repin space hash hour) = at_hour (with_pin s space hash hour) hour
after s (Put name root fresh whole hour) = at_hour (with_slot (noted_put (with_put_root s name.space root fresh hour) name root whole) name (slot_after (get s.slots name) root whole hour)) hour
after s (Finalise name hash hour) = at_hour (with_slot (noted_added s name (done_of (get s.slots name)) hash) name (record { done = Some hash; pending = None; seen = hour })) hour
after s (Delete name hour) = at_hour (without_slot s name) hour
after s (Touch name hour) = at_hour (with_touch s name hour (get s.slots name)) hour
after s (Expire space spots hour) = at_hour (without_slots s space spots) hour
after s (Swept space hashes) = without_blobs s space hashes
after s (Cursor space cursor) = record s { cursors = insert s.cursors space cursor }
after s (BaseHour hour) = at_hour s hour
after s (BaseSlot name done pending seen) = with_slot s name (record { done = done; pending = pending; seen = seen })
after s (BaseEvent name number op) = with_numbered s name number op
