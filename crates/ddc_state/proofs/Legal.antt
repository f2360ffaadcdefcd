-- What a legal entry asks for.
use Rattle.std.specs.Prelude.{◌≡◌, ℕ, Bool, true, false, ◌&&◌, List, Option, is_some}
use Rattle.std.proofs.lemmas.Bool.{and_parts}
use Rattle.std.specs.FinMap.{get}
use Rattle.ddc_names.specs.Orders.{spot_cmp}
use Rattle.ddc_names.specs.declared.hash.IoHash.{IoHash}
use Rattle.ddc_names.specs.declared.reference.RefName.{RefName}
use Rattle.ddc_names.specs.declared.reference.RefSpot.{RefSpot}
use Rattle.replication_log.specs.declared.event.EventOp.{EventOp}
use Rattle.replication_log.specs.Logs.{can_follow}
use Rattle.ddc_model.specs.declared.entry.Stored.{Stored}
use Rattle.ddc_model.specs.declared.entry.Entry.TheVariants.{Put, Finalise, Delete, Expire, BaseEvent}
use Rattle.ddc_model.specs.State.{State, has_space, done_of, pending_of, log_of}
use Rattle.ddc_model.specs.Entries.{ascends, count_added, count_all_deleted, count_deleted, has_numbers, has_room_for_events, has_slots, is_hash, is_root, legal}

module _ (s : State) where
  pub put_root : (name : RefName) (root : IoHash) (fresh : Option Stored) (whole : Bool) (hour : ℕ) → legal s (Put name root fresh whole hour) ≡ true → is_root s name.space root fresh ≡ true
  put_root name root fresh whole hour h =
      (and_parts (has_space s name.space) (is_root s name.space root fresh)
      (and_parts (has_room_for_events s (Put name root fresh whole hour)) (has_space s name.space && is_root s name.space root fresh) h).1).1

  pub put_room : (name : RefName) (root : IoHash) (fresh : Option Stored) (whole : Bool) (hour : ℕ) → legal s (Put name root fresh whole hour) ≡ true
      → whole ≡ true → has_numbers s name.space (count_added (done_of (get s.slots name)) root) ≡ true
  put_room name root fresh true hour h is = (and_parts (has_numbers s name.space (count_added (done_of (get s.slots name)) root)) (has_space s name.space && is_root s name.space root fresh) h).0
  put_room name root fresh false hour h is = absurd (cc)

  pub finalise_parts : (name : RefName) (hash : IoHash) (hour : ℕ) → legal s (Finalise name hash hour) ≡ true
      → (has_numbers s name.space (count_added (done_of (get s.slots name)) hash) ≡ true) × (is_hash (pending_of (get s.slots name)) hash ≡ true)
  finalise_parts name hash hour h =
      let parts = and_parts (has_numbers s name.space (count_added (done_of (get s.slots name)) hash)) (has_space s name.space && is_hash (pending_of (get s.slots name)) hash) h in
      (parts.0, (and_parts (has_space s name.space) (is_hash (pending_of (get s.slots name)) hash) parts.1).1)

  pub delete_room : (name : RefName) (hour : ℕ) → legal s (Delete name hour) ≡ true → has_numbers s name.space (count_deleted (done_of (get s.slots name))) ≡ true
  delete_room name hour h = (and_parts (has_numbers s name.space (count_deleted (done_of (get s.slots name)))) (has_space s name.space && is_some (get s.slots name)) h).0

  pub expire_parts : (space : List ℕ) (spots : List RefSpot) (hour : ℕ) → legal s (Expire space spots hour) ≡ true → (has_numbers s space (count_all_deleted s space spots) ≡ true) × (ascends spot_cmp spots ≡ true)
  expire_parts space spots hour h =
      let parts = and_parts (has_numbers s space (count_all_deleted s space spots)) (has_space s space && ascends spot_cmp spots && has_slots s space spots) h in
      let fits = and_parts (has_space s space && ascends spot_cmp spots) (has_slots s space spots) parts.1 in
      (parts.0, (and_parts (has_space s space) (ascends spot_cmp spots) fits.0).1)

  pub event_follows : (name : RefName) (number : ℕ) (op : EventOp) → legal s (BaseEvent name number op) ≡ true → can_follow (log_of s name.space) number ≡ true
  event_follows name number op h = (and_parts (has_space s name.space) (can_follow (log_of s name.space) number) h).1
