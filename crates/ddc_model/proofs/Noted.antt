-- That a legal entry keeps the logs of events numbered.
use Rattle.std.specs.Prelude.{◌≡◌, ℕ, ◌+◌, ◌-◌, ◌^◌, ◌≤◌, Bool, true, false, ◌&&◌, ◌||◌, ◌==◌, List, [], ◌∷◌, Option, None, Some, nat_le, length, ◌⊎◌, if◌then◌else◌, refl}
use Rattle.std.proofs.Common.{ap, sym, ◌∙◌, subst, inl, inr, arith}
use Rattle.std.proofs.lemmas.Bool.{and_parts, leb-true}
use Rattle.std.proofs.lemmas.Bool.Decides.{nat_tests}
use Rattle.std.specs.FinMap.{get, remove, get-empty}
use Rattle.std.specs.Option.{unwrap_or}
use Rattle.ddc_names.specs.declared.hash.IoHash.{IoHash}
use Rattle.ddc_names.specs.declared.reference.RefName.{RefName}
use Rattle.ddc_names.specs.declared.reference.RefSpot.{RefSpot}
use Rattle.ddc_names.specs.Orders.{name_cmp, name_exact, name_total}
use Rattle.ref_store.specs.declared.slot.Slot.{Slot}
use Rattle.replication_log.specs.declared.event.EventOp.{EventOp}
use Rattle.replication_log.specs.declared.event.EventOp.TheVariants.{Added, Deleted}
use Rattle.replication_log.specs.Logs.{Log, can_follow, empty_log, with_event}
use Rattle.replication_log.proofs.Newest.{with_is_log}
use Rattle.ddc_model.specs.declared.entry.Stored.{Stored}
use Rattle.ddc_model.specs.declared.entry.Entry.{Entry}
use Rattle.ddc_model.specs.declared.entry.Entry.TheVariants.{Space, Upload, Repin, Put, Finalise, Delete, Touch, Expire, Swept, Cursor, BaseHour, BaseSlot, BaseEvent}
use Rattle.ddc_model.specs.State.{State, done_of, has_space, log_of}
use Rattle.ddc_model.specs.Entries.{count_added, count_deleted, fits_state, has_numbers, has_room_for_events, is_hash, legal, name_at, noted_added, noted_deleted, noted_put, with_noted, with_numbered, with_put_root, with_touch, without_slot, without_slots}
use Rattle.ddc_model.specs.Laws.{IsLogOf, AreLogs, EmptyHasLogs, LegalKeepsLogs}
use Rattle.ddc_model.proofs.Maps.{same_or_not}
use Rattle.ddc_model.proofs.Events.{new_event, log_here, log_away}
use Rattle.ddc_model.proofs.Removals.{expire_goes_on}
use Rattle.ddc_model.proofs.Placed.{fits}

pub empty_logs : EmptyHasLogs
empty_logs limits some space = subst (IsLogOf limits.kept) (sym (ap (λ (o : Option Log). unwrap_or o (empty_log limits.kept)) (get-empty name_cmp space))) none where
  none : IsLogOf limits.kept (empty_log limits.kept)
  none = record { keeps = refl; is_log = record { some = some; few = omega arith; counted = omega arith; numbered = tt; ends = refl; fresh = λ e. refl }; fits = omega arith }

same_number : (n : ℕ) → (n == n) ≡ true
same_number n = grind (arith, nat_tests)

or_true : (a b : Bool) → b ≡ true → (a || b) ≡ true
or_true true b e = refl
or_true false b e = e

next_follows : (log : Log) → can_follow log (log.last + 1) ≡ true
next_follows log = or_true ((length log.events == 0) && nat_le 1 (log.last + 1)) (log.last + 1 == log.last + 1) (same_number (log.last + 1))

-- an event that follows
numbered_logs : (s : State) → AreLogs s → (name : RefName) (number : ℕ) (op : EventOp) → can_follow (log_of s name.space) number ≡ true → number ≤ 2 ^ 64 - 1 → AreLogs (with_numbered s name number op)
numbered_logs s logs name number op follows small space = split (same_or_not name_total name_exact space name.space) where
  here : IsLogOf s.limits.kept (with_event (log_of s name.space) (new_event s name number op))
  here =
      let log = logs name.space in
      record { keeps = log.keeps; is_log = with_is_log (log_of s name.space) (new_event s name number op) log.is_log follows; fits = small }

  split : (space ≡ name.space) ⊎ (space ≡ name.space → ⊥) → IsLogOf s.limits.kept (log_of (with_numbered s name number op) space)
  split (inl same) = subst (IsLogOf s.limits.kept) (sym (ap (log_of (with_numbered s name number op)) same ∙ log_here s name number op)) here
  split (inr other) = subst (IsLogOf s.limits.kept) (sym (log_away s name number op space other)) (logs space)

noted_logs : (s : State) → AreLogs s → (name : RefName) (op : EventOp) → nat_le ((log_of s name.space).last + 1) (2 ^ 64 - 1) ≡ true → AreLogs (with_noted s name op)
noted_logs s logs name op room = numbered_logs s logs name ((log_of s name.space).last + 1) op (next_follows (log_of s name.space)) (leb-true ((log_of s name.space).last + 1) (2 ^ 64 - 1) room)

added_logs : (s : State) → AreLogs s → (name : RefName) (old : Option IoHash) (hash : IoHash) → has_numbers s name.space (count_added old hash) ≡ true → AreLogs (noted_added s name old hash)
added_logs s logs name old hash room = split (is_hash old hash) room where
  split : (same : Bool) → nat_le ((log_of s name.space).last + (if same then 0 else 1)) (2 ^ 64 - 1) ≡ true → AreLogs (if same then s else with_noted s name (Added hash))
  split true room = logs
  split false room = noted_logs s logs name (Added hash) room

deleted_logs : (s : State) → AreLogs s → (name : RefName) (old : Option IoHash) → has_numbers s name.space (count_deleted old) ≡ true → AreLogs (noted_deleted s name old)
deleted_logs s logs name None room = logs
deleted_logs s logs name (Some old) room = noted_logs s logs name Deleted room

put_logs : (s : State) → AreLogs s → (name : RefName) (root : IoHash) (fresh : Option Stored) (whole : Bool) (hour : ℕ) → has_room_for_events s (Put name root fresh whole hour) ≡ true
    → AreLogs (noted_put (with_put_root s name.space root fresh hour) name root whole)
put_logs s logs name root None true hour room = added_logs (with_put_root s name.space root None hour) logs name (done_of (get s.slots name)) root room
put_logs s logs name root (Some blob) true hour room = added_logs (with_put_root s name.space root (Some blob) hour) logs name (done_of (get s.slots name)) root room
put_logs s logs name root None false hour room = logs
put_logs s logs name root (Some blob) false hour room = logs

touch_logs : (s : State) → AreLogs s → (name : RefName) (hour : ℕ) (found : Option Slot) → AreLogs (with_touch s name hour found)
touch_logs s logs name hour None = logs
touch_logs s logs name hour (Some slot) = logs

-- the numbers of a legal entry's events have room
roomy : (s : State) (entry : Entry) → legal s entry ≡ true → has_room_for_events s entry ≡ true
roomy s entry is = (and_parts (has_room_for_events s entry) (fits_state s entry) is).0

removed_logs : (s : State) → AreLogs s → (name : RefName) (hour : ℕ) → legal s (Delete name hour) ≡ true → AreLogs (without_slot s name)
removed_logs s logs name hour is = deleted_logs (record s { slots = remove s.slots name }) logs name (done_of (get s.slots name)) (roomy s (Delete name hour) is)

expired_logs : (s : State) (space : List ℕ) (spots : List RefSpot) (hour : ℕ) → AreLogs s → legal s (Expire space spots hour) ≡ true → AreLogs (without_slots s space spots)
expired_logs s space [] hour logs is = logs
expired_logs s space (spot ∷ spots) hour logs is =
    let on = expire_goes_on s space spot spots hour is in
    expired_logs (without_slot s (name_at space spot)) space spots hour (removed_logs s logs (name_at space spot) hour on.0) on.1

pub legal_logs : LegalKeepsLogs
legal_logs s (Space space ttl pin) number_fits logs is = logs
legal_logs s (Upload space hour blob) number_fits logs is = logs
legal_logs s (Repin space hash hour) number_fits logs is = logs
legal_logs s (Put name root fresh whole hour) number_fits logs is = put_logs s logs name root fresh whole hour (roomy s (Put name root fresh whole hour) is)
legal_logs s (Finalise name hash hour) number_fits logs is = added_logs s logs name (done_of (get s.slots name)) hash (roomy s (Finalise name hash hour) is)
legal_logs s (Delete name hour) number_fits logs is = removed_logs s logs name hour is
legal_logs s (Touch name hour) number_fits logs is = touch_logs s logs name hour (get s.slots name)
legal_logs s (Expire space spots hour) number_fits logs is = expired_logs s space spots hour logs is
legal_logs s (Swept space hashes) number_fits logs is = logs
legal_logs s (Cursor space cursor) number_fits logs is = logs
legal_logs s (BaseHour hour) number_fits logs is = logs
legal_logs s (BaseSlot name finalised pending seen) number_fits logs is = logs
legal_logs s (BaseEvent name number op) number_fits logs is =
    numbered_logs s logs name number op (and_parts (has_space s name.space) (can_follow (log_of s name.space) number) (fits s (BaseEvent name number op) is)).1 number_fits
