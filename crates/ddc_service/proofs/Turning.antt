-- What one turn does, by what its parts do.
use Rattle.std.proofs.Common.{◌≡◌, ◌⊎◌, ℕ, List, [], Bool, false, Option, Some, None, Result, Ok, Err, refl, sym, subst, append-nil, inl, inr, ◌∙◌, arith}
use Rattle.std.specs.Io.KnownBytes.{Appends}
use Rattle.ddc_disk.specs.Disk.{Meaning}
use Rattle.ddc_book.specs.View.{BookView}
use Rattle.ddc_protocol.specs.Requests.{Item}
use Rattle.ddc_http.specs.declared.reply.WriteFault.{WriteFault}
use Rattle.ddc_http.specs.declared.reply.WriteFault.TheVariants.{Failed}
use Rattle.ddc_http.specs.declared.reply.WriteFault.TheVariants as write_faults
use Rattle.ddc_service.specs.declared.session.SessionEnd.{SessionEnd}
use Rattle.ddc_service.specs.declared.session.SessionEnd.TheVariants.{Closed, Unread, Cut, Spent, ReadFailed, WriteFailed, DiskFailed, Damaged, NoMemory}
use Rattle.ddc_service.specs.declared.session.Turn.{Turn}
use Rattle.ddc_service.specs.declared.session.Turn.TheVariants.{Answered, Over}
use Rattle.ddc_service.specs.Effects.{Effect, Bytes, effect, Rises, MeetsNoFault}
use Rattle.ddc_service.specs.Replies.{OpenStore, IsReply, IsHour, IsChangeAt, FailsAt, ReadsBytes}
use Rattle.ddc_service.specs.Session.{Session, session, store_of, StartsAs, FirstReplies, CountsAs}
use Rattle.ddc_service.specs.inside.Writes.{WritesAs, RequestEnds, RequestGoes, SinkCounts, written_turn}
use Rattle.ddc_service.specs.inside.Turns.{Reading, TookItem, TurnAs, TurnCounts, TurnGoes}
use Rattle.ddc_service.proofs.Writing.{rose_later}

-- a failure at an hour that the clock told
change_told : (told : Option ℕ) (store : OpenStore) (item : Item) (final : OpenStore) (hour : ℕ) → IsHour told hour → IsChangeAt (Some hour) store item final ⊎ (ReadsBytes item × (final ≡ store)) → IsChangeAt told store item final ⊎ (ReadsBytes item × (final ≡ store))
change_told told store item final hour is (inl (at, same, changes)) = inl (at, subst (IsHour told) (sym same) is, changes)
change_told told store item final hour is (inr read) = inr read

abbrev fails_told : (told : Option ℕ) (store : OpenStore) (item : Item) (seen : OpenStore) (hour : ℕ) → IsHour told hour → FailsAt (Some hour) store item seen → FailsAt told store item seen
fails_told told store item seen hour is failure = record { final = failure.final; either = change_told told store item failure.final hour is failure.either; seen_as = failure.seen_as }

module _ (told : Option ℕ) (r : Reading) (close : Bool) (sink : Effect Bytes) (store next : OpenStore) (item : Item) (took : TookItem r item) where
  -- a request that was read, and answered at this hour
  pub turn_answered : (hour : ℕ) (turn : Turn) → IsHour told hour → RequestEnds sink close hour store item next turn → TurnAs told r close sink store next turn
  turn_answered hour Answered is (text, answers, wrote) = (text, (item, took, (hour, is, answers)), wrote)
  turn_answered hour (Over Closed) is h = absurd h
  turn_answered hour (Over (Unread at)) is h = absurd h
  turn_answered hour (Over (Cut at)) is h = absurd h
  turn_answered hour (Over (Spent at)) is h = absurd h
  turn_answered hour (Over ReadFailed) is h = absurd h
  turn_answered hour (Over WriteFailed) is (damaged, text, answers, wrote) = inl (damaged, text, (item, took, (hour, is, answers)), wrote)
  turn_answered hour (Over DiskFailed) is (failure, wrote) = (item, took, fails_told told store item next hour is failure, wrote)
  turn_answered hour (Over Damaged) is (text, answers, wrote) = (text, (item, took, (hour, is, answers)), wrote)
  turn_answered hour (Over NoMemory) is (kept, inl same) = (kept, inl same)
  turn_answered hour (Over NoMemory) is (kept, inr (text, answers)) = (kept, inr (text, (item, took, (hour, is, answers))))

-- how the devices go on in a turn
module _ {D : Type 0} (tells : Bool) (meaning : D → Meaning) (told : Option ℕ) (r : Reading) (book next : BookView D) where
  -- in which a request was answered at this hour
  pub turn_goes : (item : Item) → TookItem r item → (hour : ℕ) → IsHour told hour → (turn : Turn) → RequestGoes tells meaning hour item book next turn → TurnGoes tells meaning told r book next turn
  turn_goes item took hour is Answered goes = inr goes
  turn_goes item took hour is (Over Closed) goes = inr goes
  turn_goes item took hour is (Over (Unread at)) goes = inr goes
  turn_goes item took hour is (Over (Cut at)) goes = inr goes
  turn_goes item took hour is (Over (Spent at)) goes = inr goes
  turn_goes item took hour is (Over ReadFailed) goes = inr goes
  turn_goes item took hour is (Over WriteFailed) goes = inr goes
  turn_goes item took hour is (Over DiskFailed) (failure, goes) = (item, took, fails_told told (store_of book) item (store_of next) hour is failure, goes)
  turn_goes item took hour is (Over Damaged) goes = inr goes
  turn_goes item took hour is (Over NoMemory) goes = inr goes

  -- in which a faulty request was answered
  pub refused_goes : (written : Result (Unit {0}) WriteFault) → next ≡ book → TurnGoes tells meaning told r book next (written_turn written)
  refused_goes (Ok u) same = inl same
  refused_goes (Err Failed) same = inl same
  refused_goes (Err write_faults.NoMemory) same = inl same

-- an hour that a clock tells, where it tells one
abbrev an_hour : Option ℕ → ℕ
an_hour (Some hour) = hour
an_hour None = 0

is_told : (told : Option ℕ) → IsHour told (an_hour told)
is_told (Some hour) = refl
is_told None = tt

-- a request that was faulty, and answered with this text
pub turn_refused : (told : Option ℕ) (r : Reading) (close : Bool) (sink : Effect Bytes) (store : OpenStore) (item : Item) (text : List ℕ) (result : Result (Unit {0}) WriteFault)
    → ((hour : ℕ) → IsReply false close hour store item text store) → TookItem r item → WritesAs sink text result → TurnAs told r close sink store store (written_turn result)
turn_refused told r close sink store item text (Ok u) answers took w = (text, (item, took, (an_hour told, is_told told, answers (an_hour told))), w.0)
turn_refused told r close sink store item text (Err Failed) answers took w = inl (false, text, (item, took, (an_hour told, is_told told, answers (an_hour told))), w.0)
turn_refused told r close sink store item text (Err write_faults.NoMemory) answers took w = (w.0, inl refl)

pub starts_nothing : (input : Bytes) → StartsAs input []
starts_nothing None = tt
starts_nothing (Some bytes) = (bytes, refl)

pub appends_none : (old : Bytes) → Appends old old []
appends_none None = tt
appends_none (Some text) = sym (append-nil text)

-- a session that answers nothing
pub no_replies : (s : Session) → s.sink.after ≡ s.sink.before → s.store.after ≡ s.store.before → FirstReplies s
no_replies s quiet same =
    let P : Bytes → Type 0 = λ bytes. Appends s.sink.before bytes [] in
    ([], subst P (sym quiet) (appends_none s.sink.before), inl ([], record { begins = starts_nothing s.source.before; few = omega arith; runs = (refl, same) }))

-- ---- counts of faults

pub answered_counts : (source sink : Effect Bytes) (close : Bool) (hour : ℕ) (store next : OpenStore) (item : Item) (turn : Turn) → RequestEnds sink close hour store item next turn → MeetsNoFault source → SinkCounts sink turn → TurnCounts source sink turn
answered_counts source sink close hour store next item Answered ends same counts = (same, counts)
answered_counts source sink close hour store next item (Over Closed) ends same counts = absurd ends
answered_counts source sink close hour store next item (Over (Unread at)) ends same counts = absurd ends
answered_counts source sink close hour store next item (Over (Cut at)) ends same counts = absurd ends
answered_counts source sink close hour store next item (Over (Spent at)) ends same counts = absurd ends
answered_counts source sink close hour store next item (Over ReadFailed) ends same counts = absurd ends
answered_counts source sink close hour store next item (Over WriteFailed) ends same counts = (same, counts)
answered_counts source sink close hour store next item (Over DiskFailed) ends same counts = (same, counts)
answered_counts source sink close hour store next item (Over Damaged) ends same counts = (same, counts)
answered_counts source sink close hour store next item (Over NoMemory) ends same counts = (same, counts)

pub refused_counts : (source sink : Effect Bytes) (text : List ℕ) (written : Result (Unit {0}) WriteFault) → WritesAs sink text written → MeetsNoFault source → TurnCounts source sink (written_turn written)
refused_counts source sink text (Ok u) w same = (same, w.1)
refused_counts source sink text (Err Failed) w same = (same, (w.1, w.2))
refused_counts source sink text (Err write_faults.NoMemory) w same = (same, w.1)

-- what a turn counts with which a session ends, that met no fault up to there
module _ {S W : Type 0} (left : S → Bytes) (source_faults : S → ℕ) (written : W → Bytes) (sink_faults : W → ℕ) (hour : Option ℕ) (store : Effect OpenStore) (first last : S) (start mid end : W) (at : S)
    (read : source_faults first ≡ source_faults at) (wrote : sink_faults start ≡ sink_faults mid) where
  abbrev turn_source : Effect Bytes
  turn_source = effect left source_faults at last

  abbrev turn_sink : Effect Bytes
  turn_sink = effect written sink_faults mid end

  abbrev all : Session
  all = session hour (effect left source_faults first last) (effect written sink_faults start end) store

  pub ends_counts : (served : SessionEnd) → TurnCounts turn_source turn_sink (Over served) → (served ≡ DiskFailed → Rises store) → CountsAs all served
  ends_counts Closed (s, w) disk = (read ∙ s, wrote ∙ w)
  ends_counts (Unread place) (s, w) disk = (read ∙ s, wrote ∙ w)
  ends_counts (Cut place) (s, w) disk = (read ∙ s, wrote ∙ w)
  ends_counts (Spent place) (s, w) disk = (read ∙ s, wrote ∙ w)
  ends_counts ReadFailed (s, w) disk = (rose_later (source_faults first) (source_faults at) (source_faults last) (omega (arith, read)) s, wrote ∙ w)
  ends_counts WriteFailed (s, (later, w)) disk = (read ∙ s, rose_later (sink_faults start) (sink_faults mid) (sink_faults end) (omega (arith, wrote)) w)
  ends_counts DiskFailed (s, w) disk = (read ∙ s, disk refl)
  ends_counts Damaged (s, w) disk = read ∙ s
  ends_counts NoMemory (s, w) disk = wrote ∙ w

-- the same of a source that was lent and came back
pub on_source : {S : Type 0} (left : S → Bytes) (faults : S → ℕ) (old lent back new : S) → lent ≡ old → back ≡ new → (P : Effect Bytes → Type 0) → P (effect left faults lent back) → P (effect left faults old new)
on_source left faults old lent back new e f P given = subst (λ s. P (effect left faults old s)) f (subst (λ s. P (effect left faults s back)) e given)
