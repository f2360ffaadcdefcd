-- What a crash leaves while a stream is answered.
use Rattle.std.proofs.Common.{◌≡◌, ◌≢◌, ◌⊎◌, ℕ, ◌<◌, Bool, false, List, [], ◌∷◌, ◌++◌, Option, None, refl, sym, ap, subst, inl, inr, arith}
use Rattle.std.specs.Prelude.{IsTrue}
use Rattle.ddc_disk.specs.Disk.{Meaning, EachSince, Rests}
use Rattle.ddc_disk.specs.Images.{Images}
use Rattle.ddc_disk.specs.Since.{started, then_runs}
use Rattle.ddc_disk.specs.Lending as lending
use Rattle.ddc_model.specs.declared.rows.Limits.{Limits}
use Rattle.ddc_model.specs.Sound.{Cache}
use Rattle.ddc_model.specs.History.{broken_by}
use Rattle.ddc_book.specs.Calls.{OpensWhole}
use Rattle.ddc_book.specs.View.{BookView, limits_of, book_line, book_faults, Reaches}
use Rattle.ddc_protocol.specs.Requests.{Item, most_items}
use Rattle.ddc_http.specs.Reader.{Ahead}
use Rattle.ddc_service.specs.declared.session.SessionEnd.{SessionEnd}
use Rattle.ddc_service.specs.declared.session.SessionEnd.TheVariants.{Closed, Unread, Cut, Spent, ReadFailed, WriteFailed, DiskFailed, Damaged, NoMemory}
use Rattle.ddc_service.specs.declared.session.Turn.{Turn}
use Rattle.ddc_service.specs.declared.session.Turn.TheVariants.{Answered, Over}
use Rattle.ddc_service.specs.Effects.{Effect, Bytes, effect}
use Rattle.ddc_service.specs.Replies.{OpenStore, IsReplyAt, closes}
use Rattle.ddc_service.specs.Session.{Session, session, store_of, OpensNow, OpensWithin, Stops}
use Rattle.ddc_service.specs.inside.Writes.{Goes}
use Rattle.ddc_service.specs.inside.Turns.{Reading, TookItem, TurnAs, TurnGoes}
use Rattle.ddc_service.proofs.Changing.{LeftBy, leaves, leaves_failing}
use Rattle.ddc_service.proofs.Soundness.{runs_sound}
use Rattle.ddc_service.proofs.Turning.{starts_nothing}
use Rattle.ddc_service.proofs.Runs.{SoFar, turn_reading, turn_sink, so_far_answered, begun, then_answered, one_failure}

module _ {D : Type 0} (tells : Bool) (meaning : D → Meaning) (told : Option ℕ) (input : Bytes) (first : BookView D) where
  abbrev pub Within : Images → Type 0
  Within = OpensWithin told input (store_of first) (limits_of first)

  -- before the first request
  pub crash_started : ((d : D) → Rests (meaning d).line) → OpensNow tells meaning first → EachSince (book_line meaning first) (book_line meaning first) Within
  crash_started rests (tell, opens) =
      started (book_line meaning first) Within (lending.rests (meaning first.devices.first) (meaning first.devices.second) (meaning first.devices.blobs) (rests first.devices.first) (rests first.devices.second) (rests first.devices.blobs))
      (λ im now. record { items = []; text = []; state = store_of first; answered = record { begins = starts_nothing input; few = omega arith; runs = (refl, refl) }; opens = opens im now; sound = λ sound. sound })

-- one turn of a session on a book
module _ {D : Type 0} (tells : Bool) (meaning : D → Meaning) (told : Option ℕ) (source sink : Effect Bytes) (first book next : BookView D) where
  abbrev pub session_on : Session
  session_on = session told source sink (effect store_of (book_faults meaning) first next)

  abbrev Within_first : Images → Type 0
  Within_first = Within tells meaning told source.before first

  module _ (here : Ahead) (held : List ℕ) (mid : Bytes) (faults count from to : ℕ) (close : Bool) (few : count < most_items) (last : close ≡ closes count)
      (far : SoFar told source.before here sink.before mid (store_of first) (store_of book) count from) (unbroken : broken_by book.steps ≡ None) (limits : limits_of book ≡ limits_of first) where
    abbrev read : Reading
    read = turn_reading session_on here held from to

    abbrev Took : Turn → Type 0
    Took turn = TurnAs told (turn_reading session_on here held from to) close (turn_sink session_on mid faults) (store_of book) (store_of next) turn

    abbrev Went : Turn → Type 0
    Went turn = TurnGoes tells meaning told (turn_reading session_on here held from to) book next turn

    opens_first : (im : Images) (cache : Cache) → OpensWhole (limits_of book) im cache → OpensWhole (limits_of first) im cache
    opens_first im cache opens = subst (λ (l : Limits). OpensWhole l im cache) limits opens

    within_old : (im : Images) → OpensWhole (limits_of book) im book.cache → Within_first im
    within_old im opens = record {
      items = far.items;
      text = far.text;
      state = store_of book;
      answered = so_far_answered session_on here held mid faults (store_of book) count from to close few last far;
      opens = opens_first im book.cache opens;
      sound = runs_sound told 0 far.items far.front far.text [] (store_of first) (store_of book) far.begins far.runs;
    }

    within_more : (item : Item) → TookItem read item → (store : OpenStore) (text : List ℕ) → IsReplyAt told false close (store_of book) item text store → (im : Images) → OpensWhole (limits_of book) im store.cache → Within_first im
    within_more item took store text answers im opens =
        let answered = then_answered session_on here held mid faults (store_of book) count from to close few last far item took store text answers in
        let begins = begun session_on here held mid faults (store_of book) count from to close few last far item took in
        record {
          items = far.items ++ item ∷ [];
          text = far.text ++ text;
          state = store;
          answered = answered;
          opens = opens_first im store.cache opens;
          sound = runs_sound told 0 (far.items ++ item ∷ []) (far.front ++ took.0) (far.text ++ text) [] (store_of first) store begins answered.runs;
        }

    within_left : (store : OpenStore) → LeftBy told read close (store_of book) store → (im : Images) → OpensWhole (limits_of book) im store.cache → Within_first im
    within_left store (inl same) im opens = within_old im (subst (λ (c : Cache). OpensWhole (limits_of book) im c) (ap (λ (o : OpenStore). o.cache) same) opens)
    within_left store (inr (item, text, took, answers)) im opens = within_more item took store text answers im opens

    abbrev Sofar : Type 0
    Sofar = EachSince (book_line meaning first) (book_line meaning book) Within_first

    abbrev After : Type 0
    After = EachSince (book_line meaning first) (book_line meaning next) Within_first

    goes_more : (store : OpenStore) → LeftBy told read close (store_of book) store → IsTrue tells → Reaches meaning book → Goes tells meaning book store.cache next → Sofar → After
    goes_more store left tell reach goes so_far =
        then_runs (book_line meaning first) (book_line meaning book) (book_line meaning next) Within_first (λ im. OpensWhole (limits_of book) im book.cache ⊎ OpensWhole (limits_of book) im store.cache) so_far (goes.crash tell unbroken reach)
        (λ im either. elim either [ inl opens ↦ within_old im opens | inr opens ↦ within_left store left im opens ])

    -- the disks didn't fail
    calm_more : (turn : Turn) → turn ≢ Over DiskFailed → Took turn → (next ≡ book) ⊎ Goes tells meaning book next.cache next → IsTrue tells → Reaches meaning book → Sofar → After
    calm_more turn fine taken (inl same) tell reach so_far = subst (λ (b : BookView D). EachSince (book_line meaning first) (book_line meaning b) Within_first) (sym same) so_far
    calm_more turn fine taken (inr goes) tell reach so_far = goes_more (store_of next) (leaves told read close (turn_sink session_on mid faults) (store_of book) (store_of next) turn fine taken) tell reach goes so_far

    pub crash_more : (turn : Turn) → Took turn → Went turn → IsTrue tells → Reaches meaning book → Sofar → After
    crash_more Answered taken went tell reach so_far = calm_more Answered (λ e. cc) taken went tell reach so_far
    crash_more (Over Closed) taken went tell reach so_far = calm_more (Over Closed) (λ e. cc) taken went tell reach so_far
    crash_more (Over (Unread at)) taken went tell reach so_far = calm_more (Over (Unread at)) (λ e. cc) taken went tell reach so_far
    crash_more (Over (Cut at)) taken went tell reach so_far = calm_more (Over (Cut at)) (λ e. cc) taken went tell reach so_far
    crash_more (Over (Spent at)) taken went tell reach so_far = calm_more (Over (Spent at)) (λ e. cc) taken went tell reach so_far
    crash_more (Over ReadFailed) taken went tell reach so_far = calm_more (Over ReadFailed) (λ e. cc) taken went tell reach so_far
    crash_more (Over WriteFailed) taken went tell reach so_far = calm_more (Over WriteFailed) (λ e. cc) taken went tell reach so_far
    crash_more (Over DiskFailed) taken (item, took, failure, goes) tell reach so_far = goes_more failure.final (leaves_failing told read close (store_of book) item (store_of next) took failure) tell reach goes so_far
    crash_more (Over Damaged) taken went tell reach so_far = calm_more (Over Damaged) (λ e. cc) taken went tell reach so_far
    crash_more (Over NoMemory) taken went tell reach so_far = calm_more (Over NoMemory) (λ e. cc) taken went tell reach so_far

    -- where they did
    pub stops : (end : SessionEnd) → Went (Over end) → IsTrue tells → Reaches meaning book → Stops session_on (book_line meaning next) (limits_of first) end
    stops Closed went tell reach = tt
    stops (Unread at) went tell reach = tt
    stops (Cut at) went tell reach = tt
    stops (Spent at) went tell reach = tt
    stops ReadFailed went tell reach = tt
    stops WriteFailed went tell reach = tt
    stops DiskFailed (item, took, failure, goes) tell reach = (
      far.text,
      one_failure session_on here held mid faults (store_of book) count from to close few last far item took failure,
      λ im now.
          let run = goes.crash tell unbroken reach in
          elim (run.each (book_line meaning next).moment im run.later now) [ inl opens ↦ inl (opens_first im book.cache opens) | inr opens ↦ inr (opens_first im failure.final.cache opens) ],
    )
    stops Damaged went tell reach = tt
    stops NoMemory went tell reach = tt

-- each blob stays within the blob file
pub reaches_more : {D : Type 0} (tells : Bool) (meaning : D → Meaning) (book next : BookView D) → (next ≡ book) ⊎ Goes tells meaning book next.cache next → IsTrue tells → broken_by next.steps ≡ None → Reaches meaning book → Reaches meaning next
reaches_more tells meaning book next (inl same) tell unbroken reach = subst (Reaches meaning) (sym same) reach
reaches_more tells meaning book next (inr goes) tell unbroken reach = goes.reaches tell unbroken reach
