-- What the steps of a change leave together.
use Rattle.std.specs.Prelude.{◌≡◌, ℕ, ◌+◌, ◌-◌, ◌^◌, ◌<◌, Bool, true, List, length, Option, None, is_some}
use Rattle.std.proofs.Common.{ap, sym, ◌∙◌, arith}
use Rattle.std.proofs.lemmas.Bool.{leb-true}
use Rattle.std.specs.FinMap.{get, remove}
use Rattle.ddc_names.specs.Orders.{spot_cmp}
use Rattle.ddc_names.specs.declared.hash.IoHash.{IoHash}
use Rattle.ddc_names.specs.declared.reference.RefName.{RefName}
use Rattle.ddc_names.specs.declared.reference.RefSpot.{RefSpot}
use Rattle.ref_store.specs.declared.slot.Slot.{Slot}
use Rattle.ref_store.specs.Slots.{Slots}
use Rattle.ddc_model.specs.State.{State, done_of, pending_of, log_of}
use Rattle.ddc_model.specs.Entries.{ascends, at_hour, count_all_deleted, has_numbers, is_hash, noted_added, noted_deleted, noted_put, slot_after, with_pin, with_slot, without_slot, without_slots}
use Rattle.ddc_state.specs.Views.{IndexView, in_state}
use Rattle.ddc_state.specs.inside.Noted.{noted_where, with_deletions}
use Rattle.ddc_state.specs.inside.Expired.{served_of, without_slots_of}
use Rattle.ddc_state.proofs.Noting.{added_slots, where_slots, waits, put_is, deleted_then, pinned_then}
use Rattle.ddc_state.proofs.Expiring.{expired_is, counted}

abbrev raised : ℕ → IndexView → IndexView
raised hour index = in_state index (at_hour index.state hour)

abbrev slotted : RefName → Slot → IndexView → IndexView
slotted name slot index = in_state index (with_slot index.state name slot)

abbrev dropped : RefName → IndexView → IndexView
dropped name index = in_state index (record index.state { slots = remove index.state.slots name })

module _ (old one two three : IndexView) where
  pub delete_done : (name : RefName) (hour : ℕ) (object : Option IoHash) → object ≡ done_of (get old.state.slots name) → one ≡ in_state old (noted_deleted old.state name object) → two ≡ dropped name one → three ≡ raised hour two
      → three ≡ in_state old (at_hour (without_slot old.state name) hour)
  delete_done name hour object is first second third =
      third ∙ ap (raised hour) (second ∙ ap (dropped name) first)
      ∙ ap (λ (s : State). in_state old (at_hour s hour)) (deleted_then old.state name object ∙ ap (noted_deleted (record old.state { slots = remove old.state.slots name }) name) is)

  pub finalise_done : (name : RefName) (hash : IoHash) (hour : ℕ) (object : Option IoHash) (slot : Slot) → object ≡ done_of (get old.state.slots name) → one ≡ in_state old (noted_added old.state name object hash) → two ≡ slotted name slot one → three ≡ raised hour two
      → three ≡ in_state old (at_hour (with_slot (noted_added old.state name (done_of (get old.state.slots name)) hash) name slot) hour)
  finalise_done name hash hour object slot is first second third =
      third ∙ ap (raised hour) (second ∙ ap (slotted name slot) first)
      ∙ ap (λ (o : Option IoHash). in_state old (at_hour (with_slot (noted_added old.state name o hash) name slot) hour)) is

  pub expire_done : (space : List ℕ) (spots served : List RefSpot) (hour : ℕ) → ascends spot_cmp spots ≡ true → served ≡ served_of old.state.slots space spots
      → one ≡ in_state old (record old.state { logs = with_deletions old.state.logs old.state.limits.kept space served }) → two ≡ without_slots_of space one spots → three ≡ raised hour two
      → three ≡ in_state old (at_hour (without_slots old.state space spots) hour)
  expire_done space spots served hour ordered is first second third =
      third
      ∙ ap (raised hour) (second ∙ ap (λ (index : IndexView). without_slots_of space index spots) (first
      ∙ ap (λ (es : List RefSpot). in_state old (record old.state { logs = with_deletions old.state.logs old.state.limits.kept space es })) is))
      ∙ ap (λ (s : State). in_state old (at_hour s hour)) (sym (expired_is space old.state spots ordered))

module _ (old one two : IndexView) where
  -- a reference with an object is still there once its event is noted
  pub still_waits : (name : RefName) (hash : IoHash) (object : Option IoHash) → is_hash (pending_of (get old.state.slots name)) hash ≡ true → one ≡ in_state old (noted_added old.state name object hash) → is_some (get one.state.slots name) ≡ true
  still_waits name hash object pending first =
      ap (λ (index : IndexView). is_some (get index.state.slots name)) first ∙ ap (λ (slots : Slots). is_some (get slots name)) (added_slots old.state name object hash)
      ∙ waits (get old.state.slots name) hash pending

  pub still_there : (name : RefName) (root : IoHash) (whole : Bool) (object : Option IoHash) → is_some (get old.state.slots name) ≡ true → one ≡ in_state old (noted_where whole old.state name object root) → is_some (get one.state.slots name) ≡ true
  still_there name root whole object there first =
      ap (λ (index : IndexView). is_some (get index.state.slots name)) first ∙ ap (λ (slots : Slots). is_some (get slots name)) (where_slots whole old.state name object root) ∙ there

  -- a put over a reference that is there
  pub put_over_done : (name : RefName) (root : IoHash) (whole : Bool) (hour : ℕ) (before : Option Slot) (object : Option IoHash) (slot : Slot) → before ≡ get old.state.slots name → object ≡ done_of before → slot ≡ slot_after before root whole hour
      → one ≡ in_state old (noted_where whole old.state name object root) → two ≡ slotted name slot one
      → two ≡ in_state old (with_slot (noted_put old.state name root whole) name (slot_after (get old.state.slots name) root whole hour))
  put_over_done name root whole hour before object slot was is at first second =
      second ∙ ap (slotted name slot) (first ∙ ap (λ (o : Option IoHash). in_state old (noted_where whole old.state name o root)) (is ∙ ap done_of was) ∙ ap (in_state old) (put_is whole old.state name root))
      ∙ ap (λ (to : Slot). in_state old (with_slot (noted_put old.state name root whole) name to)) (at ∙ ap (λ (o : Option Slot). slot_after o root whole hour) was)

  -- the root is pinned
  pub pin_done : (name : RefName) (root : IoHash) (whole : Bool) (hour : ℕ) (slot : Slot) → one ≡ in_state old (with_slot (noted_put old.state name root whole) name slot) → two ≡ in_state one (with_pin one.state name.space root hour)
      → two ≡ in_state old (with_slot (noted_put (with_pin old.state name.space root hour) name root whole) name slot)
  pin_done name root whole hour slot first second =
      second ∙ ap (λ (index : IndexView). in_state index (with_pin index.state name.space root hour)) first ∙ ap (in_state old) (pinned_then whole old.state name root slot hour)

-- a put at a reference that isn't there
pub put_new_done : (old one : IndexView) (name : RefName) (root : IoHash) (whole : Bool) (hour : ℕ) (slot : Slot) → None ≡ get old.state.slots name → slot ≡ slot_after None root whole hour
    → one ≡ in_state old (with_slot (noted_where whole old.state name None root) name slot)
    → one ≡ in_state old (with_slot (noted_put old.state name root whole) name (slot_after (get old.state.slots name) root whole hour))
put_new_done old one name root whole hour slot was at first =
    first ∙ ap (λ (o : Option Slot). in_state old (with_slot (noted_where whole old.state name (done_of o) root) name slot)) was
    ∙ ap (λ (s : State). in_state old (with_slot s name slot)) (put_is whole old.state name root)
    ∙ ap (λ (to : Slot). in_state old (with_slot (noted_put old.state name root whole) name to)) (at ∙ ap (λ (o : Option Slot). slot_after o root whole hour) was)

-- the events have numbers
pub expire_room : (s : State) (space : List ℕ) (spots served : List RefSpot) → has_numbers s space (count_all_deleted s space spots) ≡ true → served ≡ served_of s.slots space spots → (log_of s space).last + length served < 2 ^ 64
expire_room s space spots served room is =
    let fits = leb-true ((log_of s space).last + count_all_deleted s space spots) (2 ^ 64 - 1) room in
    let many = counted s space spots in
    let same = ap (λ (es : List RefSpot). length es) is in
    omega (arith, fits, many, same)
