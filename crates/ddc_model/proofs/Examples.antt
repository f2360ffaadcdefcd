-- Worked examples of the definitions: what entries leave of references, blobs and events, and which leases are lawful.
use Rattle.std.specs.Prelude.{◌≡◌, ℕ, ◌-◌, ◌^◌, true, false, List, [], ◌∷◌, None, Some, refl}
use Rattle.std.proofs.Common.{arith}
use Rattle.std.specs.FinMap.{empty, get, insert, get-empty, get-insert, get-remove}
use Rattle.std.proofs.lemmas.Cmp.{nat_cmp_total}
use Rattle.ddc_names.specs.declared.hash.IoHash.{IoHash}
use Rattle.ddc_names.specs.declared.reference.RefName.{RefName}
use Rattle.ddc_names.specs.declared.reference.RefSpot.{RefSpot}
use Rattle.ddc_names.specs.Orders.{name_total, ref_name_total, spot_cmp}
use Rattle.replication_log.specs.declared.event.Event.{Event}
use Rattle.replication_log.specs.declared.event.EventOp.{EventOp}
use Rattle.replication_log.specs.declared.event.EventOp.TheVariants.{Added, Deleted}
use Rattle.replication_log.specs.Logs.{Log, empty_log, with_event}
use Rattle.ddc_model.specs.declared.rows.Blob.{Blob}
use Rattle.ddc_model.specs.declared.rows.Limits.{Limits}
use Rattle.ddc_model.specs.declared.entry.Entry.TheVariants.{Put, Finalise, Delete, Expire, Swept}
use Rattle.ddc_model.specs.declared.entry.Step.TheVariants.{Lease, Unlease, Broke}
use Rattle.ddc_model.specs.Keys.{blob_total}
use Rattle.ddc_model.specs.State.{State, blob_name, empty_state, log_of}
use Rattle.ddc_model.specs.Entries.{after, ascends, count_all_deleted, has_room_for_events, name_at}
use Rattle.ddc_model.specs.History.{no_leases, AreLawful, AreReturns}

abbrev limits : Limits
limits = record { spaces = 1; blobs = 9; refs = 9; links = 9; units = 9; kept = 2; entries = 9; entry_links = 9; lease_steps = 9 }

abbrev start : State
start = empty_state limits

abbrev space : List ℕ
space = 110 ∷ []

abbrev spot : ℕ → RefSpot
spot n = record { bucket = 98 ∷ []; key = record { 0 = n ∷ [] } }

abbrev name : ℕ → RefName
name n = name_at space (spot n)

abbrev hash : ℕ → IoHash
hash n = record { 0 = n ∷ [] }

abbrev event : ℕ → ℕ → EventOp → Event
event number n op = record { number = number; spot = spot n; op = op }

ruleset looks = (get-empty, get-insert, get-remove, name_total, ref_name_total, blob_total, nat_cmp_total)

-- ---- an object is put while something of it is missing, finalised, and put again, and the reference is deleted

abbrev put : State
put = after start (Put (name 1) (hash 7) None false 5)

abbrev finalised : State
finalised = after put (Finalise (name 1) (hash 7) 6)

abbrev put_again : State
put_again = after finalised (Put (name 1) (hash 7) None true 4)

abbrev deleted : State
deleted = after put_again (Delete (name 1) 8)

is_pending : get put.slots (name 1) ≡ Some (record { done = None; pending = Some (hash 7); seen = 5 })
is_pending = simp looks

no_event_yet : (log_of put space).events ≡ []
no_event_yet = simp looks

is_done : get finalised.slots (name 1) ≡ Some (record { done = Some (hash 7); pending = None; seen = 6 })
is_done = simp looks

one_event : (log_of finalised space).events ≡ event 1 1 (Added (hash 7)) ∷ []
one_event = simp looks

-- the same object again is no event
still_one_event : (log_of put_again space).events ≡ event 1 1 (Added (hash 7)) ∷ []
still_one_event = simp looks

is_gone : get deleted.slots (name 1) ≡ None
is_gone = simp looks

two_events : (log_of deleted space).events ≡ event 1 1 (Added (hash 7)) ∷ event 2 1 Deleted ∷ []
two_events = simp looks

the_greatest_hour : deleted.hour ≡ 8
the_greatest_hour = simp looks

-- ---- two references expire, of which one was pending only

abbrev two : State
two = record start { slots = insert (insert empty (name 1) (record { done = Some (hash 7); pending = None; seen = 1 })) (name 2) (record { done = None; pending = Some (hash 8); seen = 2 }) }

abbrev both : List RefSpot
both = spot 1 ∷ spot 2 ∷ []

abbrev expired : State
expired = after two (Expire space both 30)

in_order : ascends spot_cmp both ≡ true
in_order = refl

out_of_order : ascends spot_cmp (spot 2 ∷ spot 1 ∷ []) ≡ false
out_of_order = refl

twice : ascends spot_cmp (spot 1 ∷ spot 1 ∷ []) ≡ false
twice = refl

one_is_counted : count_all_deleted two space both ≡ 1
one_is_counted = simp looks

first_gone : get expired.slots (name 1) ≡ None
first_gone = simp looks

second_gone : get expired.slots (name 2) ≡ None
second_gone = simp looks

one_is_noted : (log_of expired space).events ≡ event 1 1 Deleted ∷ []
one_is_noted = simp looks

-- after the greatest number no event can be noted, and a reference that was pending only goes without one
abbrev at_the_end : State
at_the_end = record two { logs = insert empty space (record { kept = 2; last = 2 ^ 64 - 1; events = event (2 ^ 64 - 1) 3 Deleted ∷ [] }) }

no_number_left : has_room_for_events at_the_end (Delete (name 1) 30) ≡ false
no_number_left = simp looks

none_is_needed : has_room_for_events at_the_end (Delete (name 2) 30) ≡ true
none_is_needed = simp looks

-- ---- a sweep

abbrev blob : Blob
blob = record { row = record { len = 3; at = 1; extent = record { start = 0; units = 1 } }; links = [] }

abbrev stored : State
stored = record start { blobs = insert (insert empty (blob_name space (hash 7)) blob) (blob_name space (hash 8)) blob }

abbrev swept : State
swept = after stored (Swept space (hash 7 ∷ []))

is_swept : get swept.blobs (blob_name space (hash 7)) ≡ None
is_swept = simp looks

is_left : get swept.blobs (blob_name space (hash 8)) ≡ Some blob
is_left = simp looks

-- ---- a log that keeps two events

abbrev three : Log
three = with_event (with_event (with_event (empty_log 2) (event 1 1 (Added (hash 7)))) (event 2 2 (Added (hash 8)))) (event 3 1 Deleted)

the_last_two : three.events ≡ event 2 2 (Added (hash 8)) ∷ event 3 1 Deleted ∷ []
the_last_two = refl

the_last_number : three.last ≡ 3
the_last_number = refl

-- ---- leases

-- a blob is lent twice, one lease is given back, the store breaks, and then the other one is given back
around_a_break : AreLawful 0 start no_leases (Lease 1 space (hash 7) ∷ Lease 2 space (hash 7) ∷ Unlease 1 ∷ Broke false 0 1 ∷ Unlease 2 ∷ [])
around_a_break = (omega arith, (omega arith, (simp looks, (omega arith, omega arith, (simp looks, tt)))))

-- no number is used again
not_again : ¬ AreLawful 0 start no_leases (Lease 1 space (hash 7) ∷ Unlease 1 ∷ Lease 1 space (hash 7) ∷ [])
not_again h = let used = h.1.1.0 in absurd (omega arith)

-- nothing is lent by a broken store
not_lent : ¬ AreReturns no_leases (Lease 1 space (hash 7) ∷ [])
not_lent h = h
