-- What writing a reply leaves, and what comes of a request.
use Rattle.std.specs.Prelude.{◌≡◌, ◌≢◌, ◌⊎◌, ⊤, ℕ, ◌≤◌, Bool, true, false, IsTrue, List, length, None, Some, Result, Ok, Err}
use Rattle.std.specs.Io.KnownBytes.{Appends, Keeps}
use Rattle.ddc_link.specs.Writes.{AppendsFront}
use Rattle.ddc_disk.specs.Disk.{Meaning, EachSince}
use Rattle.ddc_model.specs.declared.fault.StoreFault.{StoreFault}
use Rattle.ddc_model.specs.declared.fault.StoreFault.TheVariants as faults
use Rattle.ddc_model.specs.History.{broken_by}
use Rattle.ddc_model.specs.Limits.{most_bytes}
use Rattle.ddc_model.specs.Sound.{Cache}
use Rattle.ddc_book.specs.View.{BookView, limits_of, book_line, book_faults, Reaches}
use Rattle.ddc_book.specs.Calls.{OpensWhole}
use Rattle.ddc_protocol.specs.Requests.{Item, put_blob, put_ref}
use Rattle.ddc_http.specs.Flows.{flow, WritesText}
use Rattle.ddc_http.specs.declared.reply.WriteFault.{WriteFault}
use Rattle.ddc_http.specs.declared.reply.WriteFault.TheVariants.{Failed, NoMemory}
use Rattle.ddc_service.specs.declared.session.SessionEnd.TheVariants as ends
use Rattle.ddc_service.specs.declared.session.Turn.{Turn}
use Rattle.ddc_service.specs.declared.session.Turn.TheVariants.{Answered, Over}
use Rattle.ddc_service.specs.Effects.{Effect, Bytes, effect, Rises, MeetsNoFault}
use Rattle.ddc_service.specs.Replies.{OpenStore, IsReply, FailsAt, failed_reply}
use Rattle.ddc_service.specs.Session.{store_of}

-- all of the text, a front of it where the sink failed, or nothing for want of memory
abbrev pub WritesAs : Effect Bytes → List ℕ → Result (Unit {0}) WriteFault → Type 0
WritesAs sink text result = WritesText (flow sink.before sink.faults_before) (flow sink.after sink.faults_after) text result

-- what an item stores is within the limits, and what is put under a reference is an object
abbrev pub IsStorable : Item → Type 0
IsStorable (put_blob space content) = length content.bytes ≤ most_bytes
IsStorable (put_ref name content) = (content.is_object ≡ true) × (length content.bytes ≤ most_bytes)
IsStorable other = ⊤

-- ---- how a turn goes on

-- once its reply was written, or not
abbrev pub written_turn : Result (Unit {0}) WriteFault → Turn
written_turn (Ok u) = Answered
written_turn (Err Failed) = Over ends.WriteFailed
written_turn (Err NoMemory) = Over ends.NoMemory

-- the reply said that a blob is damaged
abbrev pub damaged_turn : Result (Unit {0}) WriteFault → Turn
damaged_turn (Err Failed) = Over ends.WriteFailed
damaged_turn other = Over ends.Damaged

abbrev pub refused_turn : StoreFault → Result (Unit {0}) WriteFault → Turn
refused_turn faults.DiskFailed written = Over ends.DiskFailed
refused_turn (faults.Damaged name found) written = damaged_turn written
refused_turn other written = written_turn written

-- after this answer of the store
abbrev pub turn_of : {A : Type 0} → Result A StoreFault → Result (Unit {0}) WriteFault → Turn
turn_of (Ok a) written = written_turn written
turn_of (Err fault) written = refused_turn fault written

-- ---- what comes of a request

-- what was written, and the store after it
abbrev pub RequestEnds : Effect Bytes → Bool → ℕ → OpenStore → Item → OpenStore → Turn → Type 0
RequestEnds sink close hour store item next Answered = (text : List ℕ) × IsReply false close hour store item text next × Appends sink.before sink.after text
RequestEnds sink close hour store item next (Over ends.WriteFailed) =
    (damaged : Bool) × (text : List ℕ) × IsReply damaged close hour store item text next × AppendsFront sink.before sink.after text
RequestEnds sink close hour store item next (Over ends.DiskFailed) = FailsAt (Some hour) store item next × AppendsFront sink.before sink.after failed_reply
RequestEnds sink close hour store item next (Over ends.Damaged) = (text : List ℕ) × IsReply true close hour store item text next × AppendsFront sink.before sink.after text
RequestEnds sink close hour store item next (Over ends.NoMemory) = Keeps sink.before sink.after × ((next ≡ store) ⊎ ((text : List ℕ) × IsReply false close hour store item text next))
RequestEnds sink close hour store item next other = ⊥

-- the count of the sink's faults
abbrev pub SinkCounts : Effect Bytes → Turn → Type 0
SinkCounts sink (Over ends.WriteFailed) = (sink.faults_before ≤ sink.faults_after) × Rises sink
SinkCounts sink (Over ends.DiskFailed) = sink.faults_before ≤ sink.faults_after
SinkCounts sink (Over ends.Damaged) = sink.faults_before ≤ sink.faults_after
SinkCounts sink other = MeetsNoFault sink

-- how the devices go on in a call: a crash at any moment of it opens to the state before it or to this one, bytes included
pub record Goes {D : Type 0} (tells : Bool) (meaning : D → Meaning) (book : BookView D) (cache : Cache) (next : BookView D) : Type 0 where
  pub reaches : IsTrue tells → broken_by next.steps ≡ None → Reaches meaning book → Reaches meaning next
  pub crash : IsTrue tells → broken_by book.steps ≡ None → Reaches meaning book
      → EachSince (book_line meaning book) (book_line meaning next) (λ im. OpensWhole (limits_of book) im book.cache ⊎ OpensWhole (limits_of book) im cache)

-- they go on to the state after the request, or to the one that it leads to where the disks don't fail
abbrev pub RequestGoes : {D : Type 0} → Bool → (D → Meaning) → ℕ → Item → BookView D → BookView D → Turn → Type 0
RequestGoes tells meaning hour item book next (Over ends.DiskFailed) = (failure : FailsAt (Some hour) (store_of book) item (store_of next)) × Goes tells meaning book failure.final.cache next
RequestGoes tells meaning hour item book next other = Goes tells meaning book next.cache next

-- and how the limits, the history and the counts of faults go on
pub record AnswersRequest {D : Type 0} (tells : Bool) (meaning : D → Meaning) (sink : Effect Bytes) (close : Bool) (hour : ℕ) (book : BookView D) (item : Item) (next : BookView D) (turn : Turn) : Type 0 where
  pub turned : RequestEnds sink close hour (store_of book) item (store_of next) turn
  pub goes : RequestGoes tells meaning hour item book next turn
  pub limits : limits_of next ≡ limits_of book
  pub unbroken : turn ≢ Over ends.DiskFailed → broken_by next.steps ≡ None
  pub later : book_faults meaning book ≤ book_faults meaning next
  pub counts : SinkCounts sink turn
  pub disk : turn ≡ Over ends.DiskFailed → Rises (effect store_of (book_faults meaning) book next)
