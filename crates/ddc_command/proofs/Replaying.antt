-- What answering a stream from an opened store leaves.
use Rattle.std.proofs.Common.{◌≡◌, ◌≢◌, ℕ, Bool, IsTrue, List, [], Option, None, Some, refl, ◌∙◌, subst, sym, arith}
use Rattle.std.specs.Prelude.{◌⊎◌, ◌≤◌, IsSome}
use Rattle.ddc_disk.specs.Disk.{Meaning, Timeline, IsImage, EachImage, EachSince, Rests}
use Rattle.ddc_disk.specs.Images.{Images, devices_line, devices_faults}
use Rattle.ddc_disk.specs.Since.{then_runs, weaker}
use Rattle.ddc_disk.specs.declared.devices.Devices.{Devices}
use Rattle.ddc_journal.specs.Laws.{NotMadeIsNone}
use Rattle.ddc_model.specs.declared.rows.Limits.{Limits}
use Rattle.ddc_model.specs.Limits.{standard}
use Rattle.ddc_model.specs.Sound.{Cache, IsSound}
use Rattle.ddc_model.specs.History.{broken_by}
use Rattle.ddc_opening.specs.Opening.{OpensAs, OpenFaultOf}
use Rattle.ddc_opening.specs.Laws.{OneOpening}
use Rattle.ddc_opening.specs.declared.fault.OpenFault.{OpenFault}
use Rattle.ddc_opening.specs.declared.fault.OpenFault.TheVariants as open_faults
use Rattle.ddc_opening.specs.Loading.{AsBefore}
use Rattle.ddc_book.specs.Calls.{OpensWhole}
use Rattle.ddc_book.specs.Loading.{IsLoaded}
use Rattle.ddc_book.specs.View.{BookView, limits_of, book_line, book_faults}
use Rattle.ddc_service.specs.declared.session.SessionEnd.{SessionEnd}
use Rattle.ddc_service.specs.declared.session.SessionEnd.TheVariants.{Closed, Unread, Cut, Spent, ReadFailed, WriteFailed, DiskFailed, Damaged, NoMemory}
use Rattle.ddc_service.specs.Effects.{Effect, Bytes, effect, IsUntouched}
use Rattle.ddc_service.specs.Replies.{OpenStore, just_opened}
use Rattle.ddc_service.specs.Session.{Session, session, store_of, OpensNow, OpensWithin, IsSession, CountsAs, Stops}
use Rattle.ddc_service.proofs.Writing.{rose_later}
use Rattle.ddc_service.proofs.Turning.{starts_nothing}
use Rattle.ddc_service.proofs.Opened.{opens_just}
use Rattle.ddc_command.specs.declared.command.Command.TheVariants.{Replay}
use Rattle.ddc_command.specs.declared.end.CommandEnd.TheVariants.{Replayed, Unopened}
use Rattle.ddc_command.specs.Words.{command_of}
use Rattle.ddc_command.specs.Ends.{Scene, scene, session_in, BothHeld, DevicesRose, OpensTo, OpensAfter}
use Rattle.ddc_command.specs.inside.Parts.{EndsFor}
use Rattle.ddc_command.proofs.Finding.{loaded_holds}
use Rattle.ddc_command.proofs.Settling.{whole_after}
use Rattle.ddc_command.proofs.Unopened.{unopens, some_command}

-- nothing was answered yet
opens_within : (told : Option ℕ) (input : Bytes) (cache : Cache) (im : Images) → OpensWhole standard im cache → OpensWithin told input (just_opened cache) standard im
opens_within told input cache im opens = record {
  items = [];
  text = [];
  state = just_opened cache;
  answered = record { begins = starts_nothing input; few = omega arith; runs = (refl, refl) };
  opens = opens;
  sound = λ sound. sound;
}

-- what is said of how often the store failed does not turn on what was written
same_replies : (s : Session) (before after : ℕ) (end : SessionEnd) → IsSession s end → IsSession (session s.hour s.source s.sink (record { before = s.store.before; after = s.store.after; faults_before = before; faults_after = after })) end
same_replies s before after Closed h = h
same_replies s before after (Unread at) h = h
same_replies s before after (Cut at) h = h
same_replies s before after (Spent at) h = h
same_replies s before after ReadFailed h = h
same_replies s before after WriteFailed h = h
same_replies s before after DiskFailed h = h
same_replies s before after Damaged h = h
same_replies s before after NoMemory h = h

same_stops : (s : Session) (before after : ℕ) (line : Timeline Images) (limits : Limits) (end : SessionEnd) → Stops s line limits end
    → Stops (session s.hour s.source s.sink (record { before = s.store.before; after = s.store.after; faults_before = before; faults_after = after })) line limits end
same_stops s before after line limits Closed h = tt
same_stops s before after line limits (Unread at) h = tt
same_stops s before after line limits (Cut at) h = tt
same_stops s before after line limits (Spent at) h = tt
same_stops s before after line limits ReadFailed h = tt
same_stops s before after line limits WriteFailed h = tt
same_stops s before after line limits DiskFailed h = h
same_stops s before after line limits Damaged h = tt
same_stops s before after line limits NoMemory h = tt

-- a count that rose from the opening on rose from the start of the call on
counts_later : (s : Session) (before : ℕ) (start : OpenStore) (end : SessionEnd) → before ≤ s.store.faults_before → CountsAs s end
    → CountsAs (session s.hour s.source s.sink (record { before = start; after = s.store.after; faults_before = before; faults_after = s.store.faults_after })) end
counts_later s before start Closed later h = h
counts_later s before start (Unread at) later h = h
counts_later s before start (Cut at) later h = h
counts_later s before start (Spent at) later h = h
counts_later s before start ReadFailed later h = h
counts_later s before start WriteFailed later h = h
counts_later s before start DiskFailed later (same, rose) = (same, rose_later before s.store.faults_before s.store.faults_after later rose)
counts_later s before start Damaged later h = h
counts_later s before start NoMemory later h = h

module _ {D : Type 0} (tells : Bool) (meaning : D → Meaning) (old : Devices D) (book next : BookView D) (hour : Option ℕ) (source sink : Effect Bytes) (end : SessionEnd)
    (rests : (d : D) → Rests (meaning d).line) (reads : (d : D) (file : List ℕ) → (meaning d).held ≡ Some file → IsImage (meaning d).line file) (told : (d : D) → IsTrue tells → IsSome (meaning d).held) (one : OneOpening) where
  abbrev ran : Session
  ran = session hour source sink (effect store_of (book_faults meaning) book next)

  module _ (loaded : IsLoaded tells meaning old standard book) (serves : IsSession ran end)
      (runs : OpensNow tells meaning book → EachSince (book_line meaning book) (book_line meaning next) (OpensWithin hour source.before (store_of book) (limits_of book)))
      (stops : OpensNow tells meaning book → Stops ran (book_line meaning next) (limits_of book) end) (limits : limits_of next ≡ limits_of book) (unbroken : end ≢ DiskFailed → broken_by next.steps ≡ None) (counts : CountsAs ran end) where
    abbrev scene_at : Devices D → Scene D
    scene_at new = scene tells meaning old new hour source sink

    abbrev here : Scene D
    here = scene_at next.devices

    abbrev start : OpenStore
    start = just_opened book.cache

    just : store_of book ≡ start
    just = opens_just meaning book loaded.changes loaded.steps

    back : AsBefore meaning old book.devices
    back = loaded.as_before

    abbrev Within : Images → Type 0
    Within = OpensWithin hour source.before start standard

    -- the opened book, where the devices opened to its state at first
    opens_now : OpensTo here book.cache → OpensNow tells meaning book
    opens_now (tell, opens) =
        let P : Limits → Type 0 = λ l. EachImage (book_line meaning book) (λ im. OpensWhole l im book.cache) in
        let run = back.since in
        (tell, subst P (sym loaded.limits_are) (λ im now. opens im (run.each (book_line meaning book).moment im run.later now)))

    -- the session as it is seen from the start of the call on
    abbrev seen_from : OpenStore → Session
    seen_from store = session hour source sink (record { before = store; after = store_of next; faults_before = devices_faults meaning old; faults_after = devices_faults meaning next.devices })

    session_here : IsSession (session_in here book.cache (store_of next)) end
    session_here = let P : OpenStore → Type 0 = λ store. IsSession (seen_from store) end in subst P just (same_replies ran (devices_faults meaning old) (devices_faults meaning next.devices) end serves)

    stops_here : OpensTo here book.cache → Stops (session_in here book.cache (store_of next)) (book_line meaning next) standard end
    stops_here opens =
        let P : OpenStore → Type 0 = λ store. Stops (seen_from store) (book_line meaning next) standard end in
        let Q : Limits → Type 0 = λ l. Stops (seen_from (store_of book)) (book_line meaning next) l end in
        subst P just (subst Q loaded.limits_are (same_stops ran (devices_faults meaning old) (devices_faults meaning next.devices) (book_line meaning next) (limits_of book) end (stops (opens_now opens))))

    within_session : OpensTo here book.cache → EachSince (book_line meaning book) (book_line meaning next) Within
    within_session opens =
        let P : Limits → Type 0 = λ l. EachSince (book_line meaning book) (book_line meaning next) (OpensWithin hour source.before (store_of book) l) in
        let Q : OpenStore → Type 0 = λ s. EachSince (book_line meaning book) (book_line meaning next) (OpensWithin hour source.before s standard) in
        subst Q just (subst P loaded.limits_are (runs (opens_now opens)))

    any_moment : OpensTo here book.cache → EachSince (devices_line meaning old) (book_line meaning next) Within
    any_moment opens =
        let first = weaker (devices_line meaning old) (book_line meaning book) (IsImage (devices_line meaning old)) Within back.since (λ im is. opens_within hour source.before book.cache im (opens.1 im is)) in
        then_runs (devices_line meaning old) (book_line meaning book) (book_line meaning next) Within Within first (within_session opens) (λ im within. within)

    -- an image that opens to the state that the session left is one of those after the first items
    after : (im : Images) → OpensAs standard im next.cache → Within im → OpensAfter book.cache im next.cache
    after im opens within =
        let whole = within.opens in
        let state = within.state in
        let same = one standard im state.cache next.cache whole.opens opens in
        let keeps : IsSound book.cache → IsSound next.cache = λ sound. subst IsSound same (within.sound sound) in
        record { opens = whole_after one book.cache next.cache keeps im state.cache opens whole; sound = keeps }

    -- the devices that the book gives back, and what a crash leaves of them
    abbrev Closes : Devices D → Type 0
    Closes new = IsTrue tells → broken_by next.steps ≡ None → EachImage (devices_line meaning new) (λ im. OpensAs (limits_of next) im next.cache)

    leaves : Closes next.devices → OpensTo here book.cache → end ≢ DiskFailed → EachImage (book_line meaning next) (λ im. OpensAfter book.cache im next.cache)
    leaves closed opens ok im now =
        let P : Limits → Type 0 = λ l. OpensAs l im next.cache in
        let run = any_moment opens in
        after im (subst P (limits ∙ loaded.limits_are) (closed opens.0 (unbroken ok) im now)) (run.each (book_line meaning next).moment im run.later now)

    ends_next : Closes next.devices → EndsFor here Replay (Replayed end)
    ends_next closed words form = (
      form,
      book.cache,
      store_of next,
      record {
        opened = loaded_holds tells meaning old rests reads told book loaded;
        serves = session_here;
        counts = counts_later ran (devices_faults meaning old) start end back.later counts;
        any_moment = any_moment;
        leaves = leaves closed;
        stops = stops_here;
      },
    )

    pub replays : (new : Devices D) → new ≡ next.devices → Closes new → EndsFor (scene_at new) Replay (Replayed end)
    replays new same closed = let P : Devices D → Type 0 = λ d. Closes d → EndsFor (scene_at d) Replay (Replayed end) in subst P (sym same) ends_next closed

-- the store can't be opened
pub replay_unopened : NotMadeIsNone → {D : Type 0} (s : Scene D) (limits : Limits) → limits ≡ standard → IsUntouched s.source → IsUntouched s.sink → (fault : OpenFault) → AsBefore s.meaning s.old s.new
    → ((fault ≡ open_faults.DiskFailed) × DevicesRose s) ⊎ BothHeld s (λ first second. OpenFaultOf limits first second fault) → (fault ≡ open_faults.DiskFailed → DevicesRose s) → EndsFor s Replay (Unopened fault)
replay_unopened not_made s limits are still quiet fault back is cause words form =
    let P : Limits → Type 0 = λ l. ((fault ≡ open_faults.DiskFailed) × DevicesRose s) ⊎ BothHeld s (λ first second. OpenFaultOf l first second fault) in
    (some_command (command_of words) Replay form, (still, quiet), back, unopens not_made s (command_of words) fault (subst P are is) cause (λ e. form))
