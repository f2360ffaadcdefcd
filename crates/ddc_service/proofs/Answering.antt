-- What comes of a request, by what the book's call gives and by how the reply was written.
use Rattle.std.proofs.Common.{◌≡◌, ◌⊎◌, ℕ, ◌≤◌, List, [], ◌∷◌, ◌++◌, Bool, true, false, Option, Some, None, Result, Ok, Err, refl, sym, ap, ◌∙◌, subst, inl, inr, arith}
use Rattle.ddc_names.specs.declared.hash.IoHash.{IoHash}
use Rattle.ddc_names.specs.declared.reference.RefName.{RefName}
use Rattle.ddc_names.specs.Causes.{Rose}
use Rattle.ddc_link.specs.Writes.{AppendsFront}
use Rattle.ddc_disk.specs.Disk.{Meaning, EachSince}
use Rattle.ddc_model.specs.declared.entry.Entry.{Entry}
use Rattle.ddc_model.specs.declared.entry.Step.TheVariants.{Change}
use Rattle.ddc_model.specs.declared.fault.StoreFault.{StoreFault}
use Rattle.ddc_model.specs.declared.fault.StoreFault.TheVariants.{UnknownSpace, NotFound, NotFinalised, NotPending, Full, HistoryFull, Broken, DiskFailed, Damaged}
use Rattle.ddc_model.specs.declared.fault.StoreFault.TheVariants as faults
use Rattle.ddc_model.specs.State.{State}
use Rattle.ddc_model.specs.Sound.{Cache}
use Rattle.ddc_model.specs.Commands.{changed}
use Rattle.ddc_model.specs.History.{Past, none_yet, past_of, one_entry_more, broken_by}
use Rattle.ddc_model.specs.Reads.{ServesAs, HeldAs}
use Rattle.ddc_book.specs.declared.reads.Held.{Held}
use Rattle.ddc_book.specs.declared.reads.Opened.{Opened}
use Rattle.ddc_book.specs.declared.reads.Opened.TheVariants.{Whole}
use Rattle.ddc_book.specs.View.{BookView, limits_of, book_faults, book_line}
use Rattle.ddc_book.specs.Calls.{Becomes, CommandMakes, BreaksWriting, BreaksReading, CommandGives, ReaderGives, Only, GoesOn, OpensWhole, broke, next_cache, got, opened_bytes}
use Rattle.ddc_protocol.specs.Requests.{Item, get_blob, get_ref}
use Rattle.ddc_http.specs.declared.reply.WriteFault.{WriteFault}
use Rattle.ddc_http.specs.declared.reply.WriteFault.TheVariants.{Failed, NoMemory}
use Rattle.ddc_service.specs.declared.session.SessionEnd.TheVariants as ends
use Rattle.ddc_service.specs.declared.session.Turn.TheVariants.{Over}
use Rattle.ddc_service.specs.Effects.{Effect, Bytes}
use Rattle.ddc_service.specs.Replies.{OpenStore, store_after, says_damaged, ItemCommand, item_command, IsReply, FailsAt, ReadsBytes, failed_reply}
use Rattle.ddc_service.specs.Session.{store_of}
use Rattle.ddc_service.specs.inside.Writes.{WritesAs, RequestEnds, RequestGoes, Goes, AnswersRequest, SinkCounts, written_turn, damaged_turn, turn_of}
use Rattle.ddc_book.proofs.Limits.{after_limits}
use Rattle.ddc_book.proofs.Steps.{past_more}
use Rattle.ddc_service.proofs.Becoming.{next_by, becomes_cache, becomes_next, becomes_limits, becomes_unbroken}
use Rattle.ddc_service.proofs.Writing.{whole_front, no_text}

-- a fault told apart from another
fault_is : {A : Type 0} (fault other : StoreFault) → ◌≡◌ {A = Result A StoreFault} (Err fault) (Err other) → fault ≡ other
fault_is fault other e = cc

-- ---- what was written

store_is : (cache other : Cache) (past later : Past) → cache ≡ other → past ≡ later → ◌≡◌ {A = OpenStore} (record { cache = cache; past = past }) (record { cache = other; past = later })
store_is cache other past later e f = ap (λ (c : Cache). let s : OpenStore = record { cache = c; past = past } in s) e ∙ ap (λ (p : Past). let s : OpenStore = record { cache = other; past = p } in s) f

module _ (sink : Effect Bytes) (text : List ℕ) where
  written_counts : (written : Result (Unit {0}) WriteFault) → WritesAs sink text written → SinkCounts sink (written_turn written)
  written_counts (Ok u) (wrote, same) = same
  written_counts (Err Failed) (wrote, later, rose) = (later, rose)
  written_counts (Err NoMemory) (kept, same) = same

  -- the count never falls
  later_count : (written : Result (Unit {0}) WriteFault) → WritesAs sink text written → sink.faults_before ≤ sink.faults_after
  later_count (Ok u) (wrote, same) = omega (arith, same)
  later_count (Err Failed) (wrote, later, rose) = later
  later_count (Err NoMemory) (kept, same) = omega (arith, same)

  damaged_counts : (written : Result (Unit {0}) WriteFault) → WritesAs sink text written → SinkCounts sink (damaged_turn written)
  damaged_counts (Ok u) w = later_count (Ok u) w
  damaged_counts (Err Failed) (wrote, later, rose) = (later, rose)
  damaged_counts (Err NoMemory) w = later_count (Err NoMemory) w

  -- whatever became of the writing, a front was written
  any_front : (written : Result (Unit {0}) WriteFault) → WritesAs sink text written → AppendsFront sink.before sink.after text
  any_front (Ok u) w = whole_front sink.before sink.after text w.0
  any_front (Err Failed) w = w.0
  any_front (Err NoMemory) w = no_text sink.before sink.after text w.0

written_goes_on : (written : Result (Unit {0}) WriteFault) → written_turn written ≡ Over ends.DiskFailed → ⊥
written_goes_on (Ok u) e = cc
written_goes_on (Err Failed) e = cc
written_goes_on (Err NoMemory) e = cc

damaged_ends : (written : Result (Unit {0}) WriteFault) → damaged_turn written ≡ Over ends.DiskFailed → ⊥
damaged_ends (Ok u) e = cc
damaged_ends (Err Failed) e = cc
damaged_ends (Err NoMemory) e = cc

-- ---- one request

module _ {D : Type 0} (tells : Bool) (meaning : D → Meaning) (sink : Effect Bytes) (close : Bool) (hour : ℕ) (book next : BookView D) (unbroken : broken_by book.steps ≡ None) where
  abbrev store : OpenStore
  store = store_of book

  abbrev left : OpenStore
  left = store_of next

  becomes_store : (bytes : List ℕ) (made : Option Entry) → Becomes meaning book bytes next made → left ≡ store_after store bytes made
  becomes_store bytes None still = store_is next.cache book.cache (past_of next.steps) (past_of book.steps) still.cache (ap past_of still.steps)
  becomes_store bytes (Some entry) (cache, steps) = store_is next.cache (changed book.cache bytes (Some entry)) (past_of next.steps) (one_entry_more (past_of book.steps) entry) cache (ap past_of steps ∙ past_more none_yet book.steps (Change entry ∷ []))

  goes_to : (bytes : List ℕ) (cache : Cache) → GoesOn tells meaning book bytes next → next_cache book bytes next ≡ cache → Goes tells meaning book cache next
  goes_to bytes cache goes is = record {
    reaches = goes.reaches;
    crash = λ tell ok reach.
        let P : Cache → Type 0 = λ c. EachSince (book_line meaning book) (book_line meaning next) (λ im. OpensWhole (limits_of book) im book.cache ⊎ OpensWhole (limits_of book) im c) in
        subst P is (goes.crash tell ok reach);
  }

  module _ (item : Item) (goes_on : GoesOn tells meaning book (item_command hour (store_of book) item).bytes next) where
    abbrev c : ItemCommand
    c = item_command hour store item

    -- what a command gives, that may read bytes too
    abbrev pub Gives : Result c.Value StoreFault → Type 0
    Gives (Err DiskFailed) = BreaksWriting meaning book next c.Command ⊎ (ReadsBytes item × BreaksReading meaning book next)
    Gives answer = CommandGives meaning book c.bytes next c.Command answer

    pub command_gives : (answer : Result c.Value StoreFault) → CommandGives meaning book c.bytes next c.Command answer → Gives answer
    command_gives (Ok value) given = given
    command_gives (Err (Broken count)) given = given
    command_gives (Err UnknownSpace) given = given
    command_gives (Err NotFound) given = given
    command_gives (Err NotFinalised) given = given
    command_gives (Err NotPending) given = given
    command_gives (Err (Full what limit)) given = given
    command_gives (Err (HistoryFull entries links)) given = given
    command_gives (Err faults.NoMemory) given = given
    command_gives (Err DiskFailed) given = inl given
    command_gives (Err (Damaged name found)) given = given

    made : (answer : Result c.Value StoreFault) → CommandMakes meaning book c.bytes next c.Command answer → IsReply (says_damaged answer) close hour store item (c.reply close answer) left
    made answer (_, entry, given, becomes) = (answer, entry, given, refl, becomes_store c.bytes entry becomes, refl)

    written_goes : (written : Result (Unit {0}) WriteFault) → Goes tells meaning book next.cache next → RequestGoes tells meaning hour item book next (written_turn written)
    written_goes (Ok u) goes = goes
    written_goes (Err Failed) goes = goes
    written_goes (Err NoMemory) goes = goes

    damaged_goes : (written : Result (Unit {0}) WriteFault) → Goes tells meaning book next.cache next → RequestGoes tells meaning hour item book next (damaged_turn written)
    damaged_goes (Ok u) goes = goes
    damaged_goes (Err Failed) goes = goes
    damaged_goes (Err NoMemory) goes = goes

    fine_turned : (answer : Result c.Value StoreFault) (written : Result (Unit {0}) WriteFault) → IsReply false close hour store item (c.reply close answer) left → WritesAs sink (c.reply close answer) written
        → RequestEnds sink close hour store item left (written_turn written)
    fine_turned answer (Ok u) is w = (c.reply close answer, is, w.0)
    fine_turned answer (Err Failed) is w = (false, c.reply close answer, is, w.0)
    fine_turned answer (Err NoMemory) is w = (w.0, inr (c.reply close answer, is))

    fine : (answer : Result c.Value StoreFault) (written : Result (Unit {0}) WriteFault) → says_damaged answer ≡ false → CommandMakes meaning book c.bytes next c.Command answer → WritesAs sink (c.reply close answer) written
        → AnswersRequest tells meaning sink close hour book item next (written_turn written)
    fine answer written sound (ready, entry, given, becomes) w = record {
      turned = fine_turned answer written (subst (λ (d : Bool). IsReply d close hour store item (c.reply close answer) left) sound (made answer (ready, entry, given, becomes))) w;
      goes = written_goes written (goes_to c.bytes next.cache goes_on (becomes_next book next c.bytes meaning entry becomes ∙ sym (becomes_cache book next c.bytes meaning entry becomes)));
      limits = becomes_limits book next c.bytes meaning entry becomes;
      unbroken = λ _. becomes_unbroken book next c.bytes meaning unbroken entry becomes;
      later = goes_on.later;
      counts = written_counts sink (c.reply close answer) written w;
      disk = λ e. absurd (written_goes_on written e);
    }

    damaged_turned : (answer : Result c.Value StoreFault) (written : Result (Unit {0}) WriteFault) → IsReply true close hour store item (c.reply close answer) left → WritesAs sink (c.reply close answer) written
        → RequestEnds sink close hour store item left (damaged_turn written)
    damaged_turned answer (Ok u) is w = (c.reply close answer, is, whole_front sink.before sink.after (c.reply close answer) w.0)
    damaged_turned answer (Err Failed) is w = (true, c.reply close answer, is, w.0)
    damaged_turned answer (Err NoMemory) is w = (c.reply close answer, is, no_text sink.before sink.after (c.reply close answer) w.0)

    damaged : (name found : IoHash) (written : Result (Unit {0}) WriteFault) → CommandMakes meaning book c.bytes next c.Command (Err (Damaged name found)) → WritesAs sink (c.reply close (Err (Damaged name found))) written
        → AnswersRequest tells meaning sink close hour book item next (damaged_turn written)
    damaged name found written (ready, entry, given, becomes) w = record {
      turned = damaged_turned (Err (Damaged name found)) written (made (Err (Damaged name found)) (ready, entry, given, becomes)) w;
      goes = damaged_goes written (goes_to c.bytes next.cache goes_on (becomes_next book next c.bytes meaning entry becomes ∙ sym (becomes_cache book next c.bytes meaning entry becomes)));
      limits = becomes_limits book next c.bytes meaning entry becomes;
      unbroken = λ _. becomes_unbroken book next c.bytes meaning unbroken entry becomes;
      later = goes_on.later;
      counts = damaged_counts sink (c.reply close (Err (Damaged name found))) written w;
      disk = λ e. absurd (damaged_ends written e);
    }

    -- the disks failed as a change was written
    abbrev failed_write : (value : c.Value) (entry : Entry) → c.Command (Ok value) (Some entry) → next.cache.index ≡ (changed book.cache [] (Some entry)).index → next.steps ≡ book.steps ++ Change entry ∷ broke meaning true book next ∷ []
        → FailsAt (Some hour) store item left
    failed_write value entry given index steps = record {
      final = store_after store c.bytes (Some entry);
      either = inl (hour, refl, (value, entry, given, refl));
      seen_as = record { index = index; past = ap past_of steps ∙ past_more none_yet book.steps (Change entry ∷ broke meaning true book next ∷ []) };
    }

    -- they failed as bytes were read
    abbrev failed_read : ReadsBytes item → next.cache ≡ book.cache → next.steps ≡ book.steps ++ broke meaning false book next ∷ [] → FailsAt (Some hour) store item left
    failed_read reads cache steps = record {
      final = store;
      either = inr (reads, refl);
      seen_as = record { index = ap (λ (c : Cache). c.index) cache; past = ap past_of steps ∙ past_more none_yet book.steps (broke meaning false book next ∷ []) };
    }

    breaks : (written : Result (Unit {0}) WriteFault) → c.reply close (Err DiskFailed) ≡ failed_reply → Gives (Err DiskFailed) → Rose (book_faults meaning book) (book_faults meaning next) → WritesAs sink (c.reply close (Err DiskFailed)) written
        → AnswersRequest tells meaning sink close hour book item next (Over ends.DiskFailed)
    breaks written text (inl (_, value, entry, given, index, steps)) cause w = record {
      turned = (failed_write value entry given index steps, subst (AppendsFront sink.before sink.after) text (any_front sink (c.reply close (Err DiskFailed)) written w));
      goes = (failed_write value entry given index steps, goes_to c.bytes (changed book.cache c.bytes (Some entry)) goes_on (next_by book next c.bytes (Change entry ∷ broke meaning true book next ∷ []) steps));
      limits = ap (λ (s : State). s.limits) index ∙ after_limits book.cache.index entry;
      unbroken = λ other. absurd (other refl);
      later = goes_on.later;
      counts = later_count sink (c.reply close (Err DiskFailed)) written w;
      disk = λ _. cause;
    }
    breaks written text (inr (reads, (_, cache, steps))) cause w = record {
      turned = (failed_read reads cache steps, subst (AppendsFront sink.before sink.after) text (any_front sink (c.reply close (Err DiskFailed)) written w));
      goes = (failed_read reads cache steps, goes_to c.bytes book.cache goes_on (next_by book next c.bytes (broke meaning false book next ∷ []) steps));
      limits = ap (λ (c : Cache). c.index.limits) cache;
      unbroken = λ other. absurd (other refl);
      later = goes_on.later;
      counts = later_count sink (c.reply close (Err DiskFailed)) written w;
      disk = λ _. cause;
    }

    starves : (text : List ℕ) (written : Result (Unit {0}) WriteFault) → Becomes meaning book c.bytes next None → written ≡ Err NoMemory → WritesAs sink text written
        → AnswersRequest tells meaning sink close hour book item next (written_turn written)
    starves text (Ok u) still none w = absurd (cc)
    starves text (Err Failed) still none w = absurd (cc)
    starves text (Err NoMemory) still none w = record {
      turned = (w.0, inl (becomes_store c.bytes None still));
      goes = goes_to c.bytes next.cache goes_on (becomes_next book next c.bytes meaning None still ∙ sym (becomes_cache book next c.bytes meaning None still));
      limits = becomes_limits book next c.bytes meaning None still;
      unbroken = λ _. becomes_unbroken book next c.bytes meaning unbroken None still;
      later = goes_on.later;
      counts = w.1;
      disk = λ e. absurd (cc);
    }

    -- whatever the book answered
    pub answers : (answer : Result c.Value StoreFault) (written : Result (Unit {0}) WriteFault) → c.reply close (Err DiskFailed) ≡ failed_reply → Gives answer
        → (answer ≡ Err DiskFailed → Rose (book_faults meaning book) (book_faults meaning next)) → (answer ≡ Err faults.NoMemory → written ≡ Err NoMemory) → WritesAs sink (c.reply close answer) written
        → AnswersRequest tells meaning sink close hour book item next (turn_of answer written)
    answers (Ok value) written text given cause none w = fine (Ok value) written refl given w
    answers (Err (Broken count)) written text given cause none w = absurd (let was = given.0 in cc)
    answers (Err UnknownSpace) written text given cause none w = fine (Err UnknownSpace) written refl given w
    answers (Err NotFound) written text given cause none w = fine (Err NotFound) written refl given w
    answers (Err NotFinalised) written text given cause none w = fine (Err NotFinalised) written refl given w
    answers (Err NotPending) written text given cause none w = fine (Err NotPending) written refl given w
    answers (Err (Full what limit)) written text given cause none w = fine (Err (Full what limit)) written refl given w
    answers (Err (HistoryFull entries links)) written text given cause none w = fine (Err (HistoryFull entries links)) written refl given w
    answers (Err faults.NoMemory) written text given cause none w = starves (c.reply close (Err faults.NoMemory)) written given.1 (none refl) w
    answers (Err DiskFailed) written text given cause none w = breaks written text given (cause refl) w
    answers (Err (Damaged name found)) written text given cause none w = damaged name found written given w

-- ---- the object of a reference

module _ {D : Type 0} (tells : Bool) (meaning : D → Meaning) (sink : Effect Bytes) (close : Bool) (hour : ℕ) (book next : BookView D) (unbroken : broken_by book.steps ≡ None)
    (name : RefName) (goes_on : GoesOn tells meaning book [] next) where
  pub got_gives : (answer : Result Held StoreFault) → ReaderGives meaning book next (λ held made. HeldAs book.cache (past_of book.steps) name hour (got held) made) answer
      → Gives tells meaning sink close hour book next unbroken (get_ref name) goes_on (got answer)
  got_gives (Ok held) given = given
  got_gives (Err (Broken count)) given = given
  got_gives (Err UnknownSpace) given = given
  got_gives (Err NotFound) given = given
  got_gives (Err NotFinalised) given = given
  got_gives (Err NotPending) given = given
  got_gives (Err (Full what limit)) given = given
  got_gives (Err (HistoryFull entries links)) given = given
  got_gives (Err faults.NoMemory) given = given
  got_gives (Err DiskFailed) (inl (ready, held, entry, given, index, steps)) = inl (ready, (held.hash, held.bytes), entry, given, index, steps)
  got_gives (Err DiskFailed) (inr breaks) = inr (tt, breaks)
  got_gives (Err (Damaged name found)) given = given

pub got_fault : (answer : Result Held StoreFault) (fault : StoreFault) → got answer ≡ Err fault → answer ≡ Err fault
got_fault (Ok held) fault e = absurd (cc)
got_fault (Err other) fault e = let same : other ≡ fault = fault_is other fault e in ap (λ (f : StoreFault). let r : Result Held StoreFault = Err f in r) same

pub got_turn : (answer : Result Held StoreFault) (written : Result (Unit {0}) WriteFault) → turn_of (got answer) written ≡ turn_of answer written
got_turn (Ok held) written = refl
got_turn (Err fault) written = refl

-- ---- the bytes of a blob

module _ {D : Type 0} (tells : Bool) (meaning : D → Meaning) (sink : Effect Bytes) (close : Bool) (hour : ℕ) (book next : BookView D) (unbroken : broken_by book.steps ≡ None)
    (space : List ℕ) (hash : IoHash) (goes_on : GoesOn tells meaning book [] next) where
  pub opened_gives : (answer : Result Opened StoreFault) → ReaderGives meaning book next (Only (λ opened. ServesAs book.cache space hash (opened_bytes opened))) answer
      → Gives tells meaning sink close hour book next unbroken (get_blob space hash) goes_on (opened_bytes answer)
  opened_gives (Ok (Whole bytes)) given = given
  opened_gives (Err (Broken count)) given = given
  opened_gives (Err UnknownSpace) given = given
  opened_gives (Err NotFound) given = given
  opened_gives (Err NotFinalised) given = given
  opened_gives (Err NotPending) given = given
  opened_gives (Err (Full what limit)) given = given
  opened_gives (Err (HistoryFull entries links)) given = given
  opened_gives (Err faults.NoMemory) given = given
  opened_gives (Err DiskFailed) (inl (ready, opened, entry, (serves, none), index, steps)) = absurd (cc)
  opened_gives (Err DiskFailed) (inr breaks) = inr (tt, breaks)
  opened_gives (Err (Damaged name found)) given = given

pub opened_fault : (answer : Result Opened StoreFault) (fault : StoreFault) → opened_bytes answer ≡ Err fault → answer ≡ Err fault
opened_fault (Ok (Whole bytes)) fault e = absurd (cc)
opened_fault (Err other) fault e = let same : other ≡ fault = fault_is other fault e in ap (λ (f : StoreFault). let r : Result Opened StoreFault = Err f in r) same

pub opened_turn : (answer : Result Opened StoreFault) (written : Result (Unit {0}) WriteFault) → turn_of (opened_bytes answer) written ≡ turn_of answer written
opened_turn (Ok (Whole bytes)) written = refl
opened_turn (Err fault) written = refl
