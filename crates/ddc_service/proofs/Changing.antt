-- What an item's answer changes of the store.
use Rattle.std.proofs.Common.{◌≡◌, ◌≢◌, ◌⊎◌, ℕ, List, Bool, true, false, Option, Some, None, Result, Ok, Err, refl, ap, ◌∙◌, inl, inr}
use Rattle.ddc_names.specs.declared.hash.IoHash.{IoHash}
use Rattle.ddc_names.specs.declared.reference.RefName.{RefName}
use Rattle.ddc_model.specs.declared.entry.Entry.{Entry}
use Rattle.ddc_model.specs.declared.fault.StoreFault.{StoreFault}
use Rattle.ddc_model.specs.State.{State}
use Rattle.ddc_model.specs.Content.{Content}
use Rattle.ddc_model.specs.Sound.{Cache}
use Rattle.ddc_model.specs.Commands.{EntryWhere, UploadAs, upload_entry, PutAs, PutWhere, put_fault, FinaliseAs, FinaliseWhere, is_done}
use Rattle.ddc_model.specs.History.{Past, WithRoom, RoomWhere, no_room_for}
use Rattle.ddc_model.specs.Reads.{ServesAs, HeldAs, HeldWhere, ServedWhere, undamaged}
use Rattle.ddc_book.specs.Calls.{Only}
use Rattle.ddc_protocol.specs.Requests.{Item, put_blob, get_blob, put_ref, get_ref, finalise, mismatch, not_object}
use Rattle.ddc_service.specs.declared.session.SessionEnd.TheVariants.{Closed, Unread, Cut, Spent, ReadFailed, WriteFailed, DiskFailed, Damaged, NoMemory}
use Rattle.ddc_service.specs.declared.session.Turn.{Turn}
use Rattle.ddc_service.specs.declared.session.Turn.TheVariants.{Answered, Over}
use Rattle.ddc_service.specs.Effects.{Effect, Bytes}
use Rattle.ddc_service.specs.Replies.{OpenStore, store_after, says_damaged, ItemCommand, IsFine, item_command, IsReplyBy, IsChangeBy, IsReplyAt, IsChangeAt, ReadsBytes, FailsAt}
use Rattle.ddc_service.specs.inside.Turns.{Reading, TookItem, TurnAs}

-- ---- a refusal makes nothing

-- a command that makes no entry where it answers a fault
abbrev MakesNone : {A : Type 0} → (Result A StoreFault → Option Entry → Type 0) → Type 0
MakesNone {A} Command = (fault : StoreFault) (made : Option Entry) → Command (Err fault) made → made ≡ None

none_by_entry : (known : Result (Option Entry) StoreFault) → MakesNone (EntryWhere known)
none_by_entry (Ok entry) fault made (e, is) = absurd (cc)
none_by_entry (Err other) fault made (e, is) = is

none_by_put : (known : Option StoreFault) (s : State) (name : RefName) (content : Content) (hour : ℕ) → MakesNone (PutWhere known s name content hour)
none_by_put None s name content hour fault made (needs, are, e, is) = absurd (cc)
none_by_put (Some other) s name content hour fault made (e, is) = is

none_by_finalise : (known : Result Bool StoreFault) (s : State) (name : RefName) (hash : IoHash) (hour : ℕ) → MakesNone (FinaliseWhere known s name hash hour)
none_by_finalise (Err other) s name hash hour fault made (e, is) = is
none_by_finalise (Ok true) s name hash hour fault made (e, is) = absurd (cc)
none_by_finalise (Ok false) s name hash hour fault made (needs, are, e, is) = absurd (cc)

none_by_serving : (served : Result (List ℕ) StoreFault) (s : State) (past : Past) (hash : IoHash) (entry : Option Entry) → MakesNone (ServedWhere served s past hash entry)
none_by_serving (Ok bytes) s past hash entry fault made (e, is) = absurd (cc)
none_by_serving (Err other) s past hash entry fault made (e, is) = is

none_by_holding : (found : Result (IoHash × List ℕ) StoreFault) (s : State) (past : Past) (entry : Option Entry) → MakesNone (HeldWhere s past found entry)
none_by_holding (Err other) s past entry fault made (e, is) = is
none_by_holding (Ok found) s past entry fault made given = none_by_serving (undamaged found.0 found.1) s past found.0 entry fault made given

none_by_get : (cache : Cache) (past : Past) (name : RefName) (hour : ℕ) → MakesNone (HeldAs cache past name hour)
none_by_get cache past name hour fault made (found, entry, given, held) = none_by_holding found cache.index past entry fault made held

module _ {A : Type 0} (s : State) (past : Past) (Command : Result A StoreFault → Option Entry → Type 0) (none : MakesNone Command) where
  none_by_room : (room : Option StoreFault) (wished : Result A StoreFault) (entry : Option Entry) → Command wished entry → MakesNone (RoomWhere room wished entry)
  none_by_room (Some other) wished entry given fault made (e, is) = is
  none_by_room None (Ok value) entry given fault made (e, is) = absurd (cc)
  none_by_room None (Err other) entry given fault made (e, is) = is ∙ none other entry given

  none_with_room : MakesNone (WithRoom s past Command)
  none_with_room fault made (wished, entry, given, room) = none_by_room (no_room_for s past entry) wished entry given fault made room

none_by_one : {A : Type 0} (Answers : Result A StoreFault → Type 0) → MakesNone (Only Answers)
none_by_one Answers fault made (e, is) = is

-- no item's command makes an entry where it answers a fault
none_by_item : (hour : ℕ) (store : OpenStore) (item : Item) → MakesNone (item_command hour store item).Command
none_by_item hour store (put_blob space content) = let s = store.cache.index in none_with_room s store.past (UploadAs s space content hour) (none_by_entry (upload_entry s space content hour))
none_by_item hour store (get_blob space hash) = none_by_one (ServesAs store.cache space hash)
none_by_item hour store (put_ref name content) = let s = store.cache.index in none_with_room s store.past (PutAs s name content hour) (none_by_put (put_fault s name content hour) s name content hour)
none_by_item hour store (get_ref name) = none_by_get store.cache store.past name hour
none_by_item hour store (finalise name hash) = let s = store.cache.index in none_with_room s store.past (FinaliseAs s name hash hour) (none_by_finalise (is_done s name hash) s name hash hour)
none_by_item hour store (mismatch expected found) = none_by_one IsFine
none_by_item hour store (not_object at) = none_by_one IsFine

-- ---- what is damaged stays

module _ (c : ItemCommand) (store next : OpenStore) where
  damaged_stays : MakesNone c.Command → (answer : Result c.Value StoreFault) (made : Option Entry) → c.Command answer made → next ≡ store_after store c.bytes made → true ≡ says_damaged answer → next ≡ store
  damaged_stays none (Ok value) made given is told = absurd (cc)
  damaged_stays none (Err fault) made given is told = is ∙ ap (λ (m : Option Entry). store_after store c.bytes m) (none fault made given)

  keeps_damaged : MakesNone c.Command → (close : Bool) (text : List ℕ) → IsReplyBy c true close store text next → next ≡ store
  keeps_damaged none close text (answer, made, given, is, store_is, told) = damaged_stays none answer made given store_is told

  -- ---- a change that the disks failed at

  -- a change has an answer that makes it
  change_replies : (close : Bool) → IsChangeBy c store next → (text : List ℕ) × IsReplyBy c false close store text next
  change_replies close (value, entry, given, is) = (c.reply close (Ok value), (Ok value, Some entry, given, refl, is, refl))

-- ---- one turn

module _ (told : Option ℕ) (r : Reading) (close : Bool) (store : OpenStore) where
  -- the store is that before the turn, or an item was taken, and an answer that says nothing of damage leads to it
  abbrev pub LeftBy : OpenStore → Type 0
  LeftBy next = (next ≡ store) ⊎ ((item : Item) × (text : List ℕ) × TookItem r item × IsReplyAt told false close store item text next)

  -- where the disks failed, it is so of the store where they don't
  pub leaves_failing : (item : Item) (seen : OpenStore) → TookItem r item → (failure : FailsAt told store item seen) → LeftBy failure.final
  leaves_failing item seen took failure = split failure.either where
    split : IsChangeAt told store item failure.final ⊎ (ReadsBytes item × (failure.final ≡ store)) → LeftBy failure.final
    split (inl (hour, is, changes)) = let (text, answers) = change_replies (item_command hour store item) store failure.final close changes in inr (item, text, took, (hour, is, answers))
    split (inr (reads, same)) = inl same

module _ (told : Option ℕ) (r : Reading) (close : Bool) (sink : Effect Bytes) (store next : OpenStore) where
  by_damage : (damaged : Bool) (item : Item) (text : List ℕ) → TookItem r item → IsReplyAt told damaged close store item text next → LeftBy told r close store next
  by_damage true item text took (hour, is, answers) = inl (keeps_damaged (item_command hour store item) store next (none_by_item hour store item) close text answers)
  by_damage false item text took answers = inr (item, text, took, answers)

  -- of a turn in which the disks didn't fail
  pub leaves : (turn : Turn) → turn ≢ Over DiskFailed → TurnAs told r close sink store next turn → LeftBy told r close store next
  leaves Answered fine (text, (item, took, answers), wrote) = inr (item, text, took, answers)
  leaves (Over Closed) fine (none, end, kept, same) = inl same
  leaves (Over (Unread at)) fine (is_unread, is, wrote, same) = inl same
  leaves (Over (Cut at)) fine (is_cut, is, kept, same) = inl same
  leaves (Over (Spent at)) fine h = absurd h
  leaves (Over ReadFailed) fine (lost, kept, same) = inl same
  leaves (Over WriteFailed) fine (inl (damaged, text, (item, took, answers), wrote)) = by_damage damaged item text took answers
  leaves (Over WriteFailed) fine (inr (is_unread, wrote, same)) = inl same
  leaves (Over DiskFailed) fine h = absurd (fine refl)
  leaves (Over Damaged) fine (text, (item, took, answers), wrote) = by_damage true item text took answers
  leaves (Over NoMemory) fine (kept, inl same) = inl same
  leaves (Over NoMemory) fine (kept, inr (text, (item, took, answers))) = inr (item, text, took, answers)
