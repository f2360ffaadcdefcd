-- What a command gives, by what it looks up and makes.
use Rattle.std.specs.Prelude.{◌≡◌, ◌⊎◌, ℕ, Bool, true, List, [], ◌∷◌, ◌++◌, length, drop, Option, None, Some, Result, Ok, Err, refl}
use Rattle.std.proofs.Common.{ap, sym, ◌∙◌, subst}
use Rattle.std.proofs.Math.Seq.{drop-length, drop-append_seam}
use Rattle.ddc_disk.specs.Disk.{Meaning, EachSince}
use Rattle.ddc_model.specs.declared.entry.Entry.{Entry}
use Rattle.ddc_model.specs.declared.entry.Step.{Step}
use Rattle.ddc_model.specs.declared.entry.Step.TheVariants.{Change}
use Rattle.ddc_model.specs.declared.fault.StoreFault.{StoreFault}
use Rattle.ddc_model.specs.declared.fault.StoreFault.TheVariants.{Broken, UnknownSpace, NotFound, NotFinalised, NotPending, Full, HistoryFull, NoMemory, DiskFailed, Damaged}
use Rattle.ddc_model.specs.State.{State}
use Rattle.ddc_model.specs.Sound.{Cache}
use Rattle.ddc_model.specs.Commands.{changed, unless, with_room, EntryWhere}
use Rattle.ddc_model.specs.Counts.{full}
use Rattle.ddc_model.specs.History.{Past, past_of, broken_by, no_room, no_room_for, RoomWhere, WithRoom}
use Rattle.ddc_model.proofs.Maps.{same_some}
use Rattle.ddc_book.specs.View.{BookView, book_line, limits_of}
use Rattle.ddc_book.specs.Calls.{Stays, Becomes, CommandMakes, CommandGives, Commits, broke, change_in, OpensWhole, GoesOn}
use Rattle.ddc_book.specs.inside.Making.{IsRefusal}

-- ---- nothing is made

module _ {D A : Type 0} (meaning : D → Meaning) (old new : BookView D) (bytes : List ℕ) (Answers : Result A StoreFault → Option Entry → Type 0) (unbroken : broken_by old.steps ≡ None) (stays : Stays meaning old new) where
  pub refused : (fault : StoreFault) → IsRefusal fault → Answers (Err fault) None → CommandGives meaning old bytes new Answers (Err fault)
  refused (Broken faults) is h = absurd is
  refused UnknownSpace is h = (unbroken, None, h, stays)
  refused NotFound is h = (unbroken, None, h, stays)
  refused NotFinalised is h = (unbroken, None, h, stays)
  refused NotPending is h = (unbroken, None, h, stays)
  refused (Full what limit) is h = (unbroken, None, h, stays)
  refused (HistoryFull entries links) is h = (unbroken, None, h, stays)
  refused NoMemory is h = absurd is
  refused DiskFailed is h = absurd is
  refused (Damaged hash found) is h = (unbroken, None, h, stays)

  pub answered : (value : A) → Answers (Ok value) None → CommandGives meaning old bytes new Answers (Ok value)
  answered value h = (unbroken, None, h, stays)

-- a refusal is no failure of the disks
pub not_failed : {A : Type 0} (fault : StoreFault) (P : Type 0) → IsRefusal fault → (let answer : Result A StoreFault = Err fault in answer ≡ Err DiskFailed) → P
not_failed (Broken faults) P is e = absurd is
not_failed UnknownSpace P is e = cc
not_failed NotFound P is e = cc
not_failed NotFinalised P is e = cc
not_failed NotPending P is e = cc
not_failed (Full what limit) P is e = cc
not_failed (HistoryFull entries links) P is e = cc
not_failed NoMemory P is e = absurd is
not_failed DiskFailed P is e = absurd is
not_failed (Damaged hash found) P is e = cc

-- a command that makes nothing needs no room
pub no_room_needed : {A : Type 0} (s : State) (past : Past) (Answers : Result A StoreFault → Option Entry → Type 0) (answer : Result A StoreFault) → Answers answer None → WithRoom s past Answers answer None
no_room_needed s past Answers answer h = (answer, None, h, (refl, refl))

no_error : (fault : StoreFault) → (let answer : Result (Unit {0}) StoreFault = Err fault in answer ≡ Ok tt) → ⊥
no_error fault e = cc

module _ {D A : Type 0} (meaning : D → Meaning) (old new : BookView D) (bytes : List ℕ) (Answers : Result A StoreFault → Option Entry → Type 0) (unbroken : broken_by old.steps ≡ None) (stays : Stays meaning old new) where
  -- a command that is refused makes nothing
  pub refuses : (fault : StoreFault) → IsRefusal fault → Answers (Err fault) None → CommandGives meaning old bytes new (WithRoom old.cache.index (past_of old.steps) Answers) (Err fault)
  refuses fault is h = refused meaning old new bytes (WithRoom old.cache.index (past_of old.steps) Answers) unbroken stays fault is (no_room_needed old.cache.index (past_of old.steps) Answers (Err fault) h)

  -- a command that makes nothing
  pub makes_none : (value : A) → Answers (Ok value) None → CommandGives meaning old bytes new (WithRoom old.cache.index (past_of old.steps) Answers) (Ok value)
  makes_none value h = answered meaning old new bytes (WithRoom old.cache.index (past_of old.steps) Answers) unbroken stays value (no_room_needed old.cache.index (past_of old.steps) Answers (Ok value) h)

  pub no_memory : (fault : StoreFault) → fault ≡ NoMemory → CommandGives meaning old bytes new Answers (Err fault)
  no_memory fault is = subst (λ (f : StoreFault). CommandGives meaning old bytes new Answers (Err f)) (sym is) (unbroken, stays)

-- ---- an entry is made

module _ {D A : Type 0} (old : BookView D) (entry : Entry) (value : A) where
  -- what `make` answers
  abbrev pub InRoom : Result A StoreFault → Option Entry → Type 0
  InRoom = WithRoom old.cache.index (past_of old.steps) (λ wished made. (wished ≡ Ok value) × (made ≡ Some entry))

  full_up : (fault : StoreFault) → no_room old.cache.index (past_of old.steps) entry ≡ Some fault → InRoom (Err fault) None
  full_up fault is = (Ok value, Some entry, (refl, refl), subst (λ (o : Option StoreFault). RoomWhere o (Ok value) (Some entry) (Err fault) None) (sym is) (refl, refl))

  pub in_room : no_room old.cache.index (past_of old.steps) entry ≡ None → InRoom (Ok value) (Some entry)
  in_room is = (Ok value, Some entry, (refl, refl), subst (λ (o : Option StoreFault). RoomWhere o (Ok value) (Some entry) (Ok value) (Some entry)) (sym is) (refl, refl))

  pub room_refused : (meaning : D → Meaning) (bytes : List ℕ) → broken_by old.steps ≡ None → Stays meaning old old → (fault : StoreFault) → IsRefusal fault → no_room old.cache.index (past_of old.steps) entry ≡ Some fault → CommandGives meaning old bytes old InRoom (Err fault)
  room_refused meaning bytes unbroken stays fault is full_is = refused meaning old old bytes InRoom unbroken stays fault is (full_up fault full_is)

module _ {D A : Type 0} (meaning : D → Meaning) (old new : BookView D) (bytes : List ℕ) (entry : Entry) (value : A) where
  module _ (Answers : Result A StoreFault → Option Entry → Type 0) (h : Answers (Ok value) (Some entry)) where
    -- the entry was made
    pub committed : Commits meaning old entry bytes new (Ok tt) → CommandGives meaning old bytes new Answers (Ok value)
    committed made = (made.0, Some entry, h, subst (λ (o : Option Entry). Becomes meaning old bytes new o) made.2.1 made.3)

    pub not_committed : (fault : StoreFault) → Commits meaning old entry bytes new (Err fault) → CommandGives meaning old bytes new Answers (Err fault)
    not_committed (Broken faults) made = made
    not_committed UnknownSpace made = absurd (no_error UnknownSpace made.2.0)
    not_committed NotFound made = absurd (no_error NotFound made.2.0)
    not_committed NotFinalised made = absurd (no_error NotFinalised made.2.0)
    not_committed NotPending made = absurd (no_error NotPending made.2.0)
    not_committed (Full what limit) made = absurd (no_error (Full what limit) made.2.0)
    not_committed (HistoryFull entries links) made = absurd (no_error (HistoryFull entries links) made.2.0)
    not_committed NoMemory made = made
    not_committed DiskFailed made =
        let same : made.2 ≡ entry = same_some made.2 entry made.3.1 in
        (made.0, value, entry, h, made.4 ∙ ap (λ (e : Entry). (changed old.cache [] (Some e)).index) same, made.5 ∙ ap (λ (e : Entry). old.steps ++ Change e ∷ broke meaning true old new ∷ []) same)
    not_committed (Damaged hash found) made = absurd (no_error (Damaged hash found) made.2.0)

  -- what the command answers, from what `make` answers, whatever bytes a command without a blob has
  module _ (Answers : Result A StoreFault → Option Entry → Type 0) (h : Answers (Ok value) (Some entry)) (others : List ℕ) (alike : changed old.cache bytes (Some entry) ≡ changed old.cache others (Some entry)) where
    abbrev Roomed : Result A StoreFault → Option Entry → Type 0
    Roomed = WithRoom old.cache.index (past_of old.steps) Answers

    same_change : (made : Option Entry) (room : Option StoreFault) (wished : Result A StoreFault) (wished_entry : Option Entry) (answer : Result A StoreFault) → wished_entry ≡ Some entry → RoomWhere room wished wished_entry answer made
        → changed old.cache bytes made ≡ changed old.cache others made
    same_change made None wished wished_entry answer is (_, same) = subst (λ (o : Option Entry). changed old.cache bytes o ≡ changed old.cache others o) (sym (same ∙ is)) alike
    same_change made (Some fault) wished wished_entry answer is (_, same) = subst (λ (o : Option Entry). changed old.cache bytes o ≡ changed old.cache others o) (sym same) refl

    answers : (answer : Result A StoreFault) (made : Option Entry) → InRoom old entry value answer made → Roomed answer made
    answers answer made p = (p.0, p.1, subst (λ (o : Option Entry). Answers p.0 o) (sym p.2.1) (subst (λ (w : Result A StoreFault). Answers w (Some entry)) (sym p.2.0) h), p.3)

    changes : (answer : Result A StoreFault) (made : Option Entry) → InRoom old entry value answer made → changed old.cache bytes made ≡ changed old.cache others made
    changes answer made p = same_change made (no_room_for old.cache.index (past_of old.steps) p.1) p.0 p.1 answer p.2.1 p.3

    becomes : (made : Option Entry) → changed old.cache bytes made ≡ changed old.cache others made → Becomes meaning old bytes new made → Becomes meaning old others new made
    becomes None same is = is
    becomes (Some e) same is = (is.0 ∙ same, is.1)

    makes : (answer : Result A StoreFault) → CommandMakes meaning old bytes new (InRoom old entry value) answer → CommandMakes meaning old others new Roomed answer
    makes answer m = (m.0, m.1, answers answer m.1 m.2, becomes m.1 (changes answer m.1 m.2) m.3)

    pub gives : (answer : Result A StoreFault) → CommandGives meaning old bytes new (InRoom old entry value) answer → CommandGives meaning old others new Roomed answer
    gives (Ok got) m = makes (Ok got) m
    gives (Err (Broken faults)) m = m
    gives (Err UnknownSpace) m = makes (Err UnknownSpace) m
    gives (Err NotFound) m = makes (Err NotFound) m
    gives (Err NotFinalised) m = makes (Err NotFinalised) m
    gives (Err NotPending) m = makes (Err NotPending) m
    gives (Err (Full what limit)) m = makes (Err (Full what limit)) m
    gives (Err (HistoryFull entries links)) m = makes (Err (HistoryFull entries links)) m
    gives (Err NoMemory) m = m
    gives (Err DiskFailed) m = (m.0, m.1, m.2, answers (Ok m.1) (Some m.2) m.3, m.4, m.5)
    gives (Err (Damaged hash found)) m = makes (Err (Damaged hash found)) m

    -- the state after the call is the same, whichever bytes those of its change are
    abbrev Alike : List Step → Type 0
    Alike steps = changed old.cache bytes (change_in (drop (length old.steps) steps)) ≡ changed old.cache others (change_in (drop (length old.steps) steps))

    alike_none : (steps : List Step) → steps ≡ old.steps → Alike steps
    alike_none steps is = subst (λ (l : List Step). Alike l) (sym is)
        (subst (λ (l : List Step). changed old.cache bytes (change_in l) ≡ changed old.cache others (change_in l)) (sym (drop-length old.steps)) refl)

    alike_some : (steps : List Step) (made : Entry) (tail : List Step) → steps ≡ old.steps ++ Change made ∷ tail → changed old.cache bytes (Some made) ≡ changed old.cache others (Some made) → Alike steps
    alike_some steps made tail is same = subst (λ (l : List Step). Alike l) (sym is)
        (subst (λ (l : List Step). changed old.cache bytes (change_in l) ≡ changed old.cache others (change_in l)) (sym (drop-append_seam old.steps (Change made ∷ tail))) same)

    alike_made : (made : Option Entry) → changed old.cache bytes made ≡ changed old.cache others made → Becomes meaning old bytes new made → Alike new.steps
    alike_made None same is = alike_none new.steps is.steps
    alike_made (Some e) same is = alike_some new.steps e [] is.1 same

    alike_makes : (answer : Result A StoreFault) → CommandMakes meaning old bytes new (InRoom old entry value) answer → Alike new.steps
    alike_makes answer m = alike_made m.1 (changes answer m.1 m.2) m.3

    alike_gives : (answer : Result A StoreFault) → CommandGives meaning old bytes new (InRoom old entry value) answer → Alike new.steps
    alike_gives (Ok got) m = alike_makes (Ok got) m
    alike_gives (Err (Broken faults)) m = alike_none new.steps m.1.steps
    alike_gives (Err UnknownSpace) m = alike_makes (Err UnknownSpace) m
    alike_gives (Err NotFound) m = alike_makes (Err NotFound) m
    alike_gives (Err NotFinalised) m = alike_makes (Err NotFinalised) m
    alike_gives (Err NotPending) m = alike_makes (Err NotPending) m
    alike_gives (Err (Full what limit)) m = alike_makes (Err (Full what limit)) m
    alike_gives (Err (HistoryFull entries links)) m = alike_makes (Err (HistoryFull entries links)) m
    alike_gives (Err NoMemory) m = alike_none new.steps m.1.steps
    alike_gives (Err DiskFailed) m = alike_some new.steps m.2 (broke meaning true old new ∷ []) m.5 (changes (Ok m.1) (Some m.2) m.3)
    alike_gives (Err (Damaged hash found)) m = alike_makes (Err (Damaged hash found)) m

    pub goes_alike : (tells : Bool) (answer : Result A StoreFault) → CommandGives meaning old bytes new (InRoom old entry value) answer → GoesOn tells meaning old bytes new → GoesOn tells meaning old others new
    goes_alike tells answer m goes = record {
      opened = goes.opened;
      later = goes.later;
      past = goes.past;
      reaches = goes.reaches;
      crash = λ tell none reaches. subst (λ (c : Cache). EachSince (book_line meaning old) (book_line meaning new) (λ im. OpensWhole (limits_of old) im old.cache ⊎ OpensWhole (limits_of old) im c)) (alike_gives answer m) (goes.crash tell none reaches);
    }

pub room_failed : {D A : Type 0} (meaning : D → Meaning) (old new : BookView D) (bytes : List ℕ) (entry : Entry) (value : A) → no_room old.cache.index (past_of old.steps) entry ≡ None → (fault : StoreFault) → Commits meaning old entry bytes new (Err fault) → CommandGives meaning old bytes new (InRoom old entry value) (Err fault)
room_failed meaning old new bytes entry value room fault made = not_committed meaning old new bytes entry value (InRoom old entry value) (in_room old entry value room) fault made

-- ---- limits

pub made_where : (s : State) (entry : Entry) → full s entry ≡ None → EntryWhere (with_room s (Some entry)) (Ok tt) (Some entry)
made_where s entry e = subst (λ (fault : Option StoreFault). EntryWhere (unless fault (Some entry)) (Ok tt) (Some entry)) (sym e) (refl, refl)

pub refused_where : (s : State) (entry : Entry) (fault : StoreFault) → full s entry ≡ Some fault → EntryWhere (with_room s (Some entry)) (Err fault) None
refused_where s entry fault e = subst (λ (found : Option StoreFault). EntryWhere (unless found (Some entry)) (Err fault) None) (sym e) (refl, refl)
