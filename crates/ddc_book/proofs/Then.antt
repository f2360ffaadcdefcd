-- What two runs of a book give, the first of which changed nothing.
use Rattle.std.specs.Prelude.{◌≡◌, ◌⊎◌, ℕ, Bool, List, [], ◌∷◌, ◌++◌, length, drop, true, Option, None, Some, Result, Ok, Err}
use Rattle.std.proofs.Common.{inl, inr, sym, ◌∙◌, ap, subst, arith}
use Rattle.std.proofs.Math.Seq.{drop-length}
use Rattle.ddc_disk.specs.Disk.{Meaning, IsImage}
use Rattle.ddc_disk.specs.Images.{Images, devices_line}
use Rattle.ddc_disk.specs.Since.{then_runs, weaker}
use Rattle.ddc_disk.specs.declared.devices.Devices.{Devices}
use Rattle.ddc_model.specs.declared.rows.Limits.{Limits}
use Rattle.ddc_model.specs.declared.entry.Entry.{Entry}
use Rattle.ddc_model.specs.declared.entry.Step.{Step}
use Rattle.ddc_model.specs.declared.entry.Step.TheVariants.{Change, Broke}
use Rattle.ddc_model.specs.declared.fault.StoreFault.{StoreFault}
use Rattle.ddc_model.specs.declared.fault.StoreFault.TheVariants.{Broken, UnknownSpace, NotFound, NotFinalised, NotPending, Full, HistoryFull, NoMemory, DiskFailed, Damaged}
use Rattle.ddc_model.specs.Commands.{changed}
use Rattle.ddc_model.specs.History.{broken_by}
use Rattle.ddc_model.specs.Sound.{Cache}
use Rattle.ddc_opening.specs.Loading.{AsBefore}
use Rattle.ddc_book.specs.View.{BookView, book_line, book_faults, limits_of}
use Rattle.ddc_book.specs.Calls.{Stays, Becomes, CommandMakes, CommandGives, ReaderGives, Commits, OpensWhole, change_in, next_cache, GoesOn}

pub as_before_then : {D : Type 0} (meaning : D → Meaning) (old mid new : Devices D) → AsBefore meaning old mid → AsBefore meaning mid new → AsBefore meaning old new
as_before_then meaning old mid new first then = record {
  first = then.first ∙ first.first;
  second = then.second ∙ first.second;
  blobs = then.blobs ∙ first.blobs;
  later = omega (arith, first.later, then.later);
  since = then_runs (devices_line meaning old) (devices_line meaning mid) (devices_line meaning new) (IsImage (devices_line meaning old)) (IsImage (devices_line meaning mid)) first.since then.since
      (λ im now. first.since.each (devices_line meaning mid).moment im first.since.later now);
}

pub stays_then : {D : Type 0} (meaning : D → Meaning) (old mid new : BookView D) → Stays meaning old mid → Stays meaning mid new → Stays meaning old new
stays_then meaning old mid new first then = record {
  cache = then.cache ∙ first.cache;
  steps = then.steps ∙ first.steps;
  devices = as_before_then meaning old.devices mid.devices new.devices first.devices then.devices;
}

module _ {D : Type 0} (tells : Bool) (meaning : D → Meaning) (old mid new : BookView D) (stays : Stays meaning old mid) where
  abbrev Before : Images → Type 0
  Before im = OpensWhole (limits_of old) im old.cache

  abbrev Either : Images → Type 0
  Either im = OpensWhole (limits_of old) im old.cache ⊎ OpensWhole (limits_of old) im (next_cache old [] new)

  unchanged : next_cache old [] mid ≡ old.cache
  unchanged =
      ap (λ (l : List Step). changed old.cache [] (change_in (drop (length old.steps) l))) stays.steps
      ∙ ap (λ (l : List Step). changed old.cache [] (change_in l)) (drop-length old.steps)

  next_same : next_cache mid [] new ≡ next_cache old [] new
  next_same i = changed (stays.cache i) [] (change_in (drop (length (stays.steps i)) new.steps))

  limits_same : limits_of mid ≡ limits_of old
  limits_same = ap (λ (c : Cache). c.index.limits) stays.cache

  before : (im : Images) → OpensWhole (limits_of old) im old.cache ⊎ OpensWhole (limits_of old) im (next_cache old [] mid) → Either im
  before im (inl opens) = inl opens
  before im (inr opens) = inl (subst (λ (c : Cache). OpensWhole (limits_of old) im c) unchanged opens)

  after : (im : Images) → OpensWhole (limits_of mid) im mid.cache ⊎ OpensWhole (limits_of mid) im (next_cache mid [] new) → Either im
  after im either =
      subst (λ (c : Cache). OpensWhole (limits_of old) im old.cache ⊎ OpensWhole (limits_of old) im c) next_same
      (subst (λ (c : Cache). OpensWhole (limits_of old) im c ⊎ OpensWhole (limits_of old) im (next_cache mid [] new)) stays.cache
      (subst (λ (l : Limits). OpensWhole l im mid.cache ⊎ OpensWhole l im (next_cache mid [] new)) limits_same either))

  pub goes_then : GoesOn tells meaning old [] mid → GoesOn tells meaning mid [] new → broken_by old.steps ≡ None → GoesOn tells meaning old [] new
  goes_then first then unbroken =
      let mid_unbroken : broken_by mid.steps ≡ None = ap broken_by stays.steps ∙ unbroken in
      record {
        opened = then.opened ∙ first.opened;
        later = omega (arith, first.later, then.later);
        past = then_runs (book_line meaning old) (book_line meaning mid) (book_line meaning new) (λ _. Unit {0}) (λ _. Unit {0}) first.past then.past (λ im x. tt);
        reaches = λ tell none reaches. then.reaches tell none (first.reaches tell mid_unbroken reaches);
        crash = λ tell none reaches.
            then_runs (book_line meaning old) (book_line meaning mid) (book_line meaning new) Either _
            (weaker (book_line meaning old) (book_line meaning mid) _ Either (first.crash tell unbroken reaches) before) (then.crash tell mid_unbroken (first.reaches tell mid_unbroken reaches)) after;
      }

-- what a command gives after a run that changed nothing, and met no fault
module _ {D A : Type 0} (meaning : D → Meaning) (old mid new : BookView D) (stays : Stays meaning old mid) (same_faults : book_faults meaning old ≡ book_faults meaning mid) (bytes : List ℕ) (Answers : Result A StoreFault → Option Entry → Type 0) where
  abbrev unbroken_old : broken_by mid.steps ≡ None → broken_by old.steps ≡ None
  unbroken_old none = ap broken_by (sym stays.steps) ∙ none

  becomes_then : (made : Option Entry) → Becomes meaning mid bytes new made → Becomes meaning old bytes new made
  becomes_then None is = stays_then meaning old mid new stays is
  becomes_then (Some entry) is = (is.0 ∙ ap (λ (c : Cache). changed c bytes (Some entry)) stays.cache, is.1 ∙ ap (λ (l : List Step). l ++ Change entry ∷ []) stays.steps)

  makes_then : (answer : Result A StoreFault) → CommandMakes meaning mid bytes new Answers answer → CommandMakes meaning old bytes new Answers answer
  makes_then answer m = (unbroken_old m.0, m.1, m.2, becomes_then m.1 m.3)

  pub gives_then : (answer : Result A StoreFault) → CommandGives meaning mid bytes new Answers answer → CommandGives meaning old bytes new Answers answer
  gives_then (Ok got) m = makes_then (Ok got) m
  gives_then (Err (Broken faults)) m = (ap broken_by (sym stays.steps) ∙ m.0, stays_then meaning old mid new stays m.1)
  gives_then (Err UnknownSpace) m = makes_then (Err UnknownSpace) m
  gives_then (Err NotFound) m = makes_then (Err NotFound) m
  gives_then (Err NotFinalised) m = makes_then (Err NotFinalised) m
  gives_then (Err NotPending) m = makes_then (Err NotPending) m
  gives_then (Err (Full what limit)) m = makes_then (Err (Full what limit)) m
  gives_then (Err (HistoryFull entries links)) m = makes_then (Err (HistoryFull entries links)) m
  gives_then (Err NoMemory) m = (unbroken_old m.0, stays_then meaning old mid new stays m.1)
  gives_then (Err DiskFailed) m = (
    unbroken_old m.0,
    m.1,
    m.2,
    m.3,
    m.4 ∙ ap (λ (c : Cache). (changed c [] (Some m.2)).index) stays.cache,
    m.5 ∙ (λ i. stays.steps i ++ Change m.2 ∷ Broke true (sym same_faults i) (book_faults meaning new) ∷ []),
  )
  gives_then (Err (Damaged hash found)) m = makes_then (Err (Damaged hash found)) m

-- a command that reads gives what one does that doesn't
pub reader_gives : {D A : Type 0} (meaning : D → Meaning) (old new : BookView D) (Answers : Result A StoreFault → Option Entry → Type 0) (fault : StoreFault) → CommandGives meaning old [] new Answers (Err fault) → ReaderGives meaning old new Answers (Err fault)
reader_gives meaning old new Answers (Broken faults) m = m
reader_gives meaning old new Answers UnknownSpace m = m
reader_gives meaning old new Answers NotFound m = m
reader_gives meaning old new Answers NotFinalised m = m
reader_gives meaning old new Answers NotPending m = m
reader_gives meaning old new Answers (Full what limit) m = m
reader_gives meaning old new Answers (HistoryFull entries links) m = m
reader_gives meaning old new Answers NoMemory m = m
reader_gives meaning old new Answers DiskFailed m = inl m
reader_gives meaning old new Answers (Damaged hash found) m = m

-- so does what making an entry gives
pub commits_then : {D : Type 0} (meaning : D → Meaning) (old mid new : BookView D) → Stays meaning old mid → book_faults meaning old ≡ book_faults meaning mid → (entry : Entry) (bytes : List ℕ) (result : Result (Unit {0}) StoreFault)
    → Commits meaning mid entry bytes new result → Commits meaning old entry bytes new result
commits_then meaning old mid new stays same_faults entry bytes result made = gives_then meaning old mid new stays same_faults bytes (λ answer made. (answer ≡ Ok tt) × (made ≡ Some entry)) result made
