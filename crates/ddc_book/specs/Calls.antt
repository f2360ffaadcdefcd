-- What a call of a book leaves.
use Rattle.std.specs.Prelude.{◌≡◌, ◌⊎◌, ℕ, ◌≤◌, Bool, true, false, IsTrue, List, [], ◌∷◌, ◌++◌, drop, length, Option, None, Some, Result, Ok, Err}
use Rattle.ddc_names.specs.declared.hash.IoHash.{IoHash}
use Rattle.ddc_disk.specs.Disk.{Meaning, EachSince}
use Rattle.ddc_disk.specs.Images.{Images}
use Rattle.ddc_model.specs.declared.rows.Limits.{Limits}
use Rattle.ddc_model.specs.declared.entry.Entry.{Entry}
use Rattle.ddc_model.specs.declared.entry.Step.{Step}
use Rattle.ddc_model.specs.declared.entry.Step.TheVariants.{Change, Broke}
use Rattle.ddc_model.specs.declared.fault.StoreFault.{StoreFault}
use Rattle.ddc_model.specs.declared.fault.StoreFault.TheVariants.{Broken, NoMemory, DiskFailed}
use Rattle.ddc_model.specs.Sound.{Cache}
use Rattle.ddc_model.specs.Commands.{changed}
use Rattle.ddc_model.specs.History.{broken_by, unless_broken}
use Rattle.ddc_model.specs.Reads.{ExistAs}
use Rattle.ddc_book.specs.declared.reads.Held.{Held}
use Rattle.ddc_book.specs.declared.reads.Opened.{Opened}
use Rattle.ddc_book.specs.declared.reads.Opened.TheVariants.{Whole}
use Rattle.ddc_opening.specs.Opening.{AllReach, OpensAs}
use Rattle.ddc_opening.specs.Loading.{AsBefore}
use Rattle.ddc_book.specs.View.{BookView, limits_of, book_line, book_faults, Reaches}

-- nothing changed: the same state and history, and the devices went on with what they held
pub record Stays {D : Type 0} (meaning : D → Meaning) (old new : BookView D) : Type 0 where
  pub cache : new.cache ≡ old.cache
  pub steps : new.steps ≡ old.steps
  pub devices : AsBefore meaning old.devices new.devices

-- an entry was made with these bytes, or none
abbrev pub Becomes : {D : Type 0} → (D → Meaning) → BookView D → List ℕ → BookView D → Option Entry → Type 0
Becomes meaning old bytes new None = Stays meaning old new
Becomes meaning old bytes new (Some entry) = (new.cache ≡ changed old.cache bytes (Some entry)) × (new.steps ≡ old.steps ++ Change entry ∷ [])

-- the answer and the entry are those of the command
abbrev pub CommandMakes : {D A : Type 0} → (D → Meaning) → BookView D → List ℕ → BookView D → (Result A StoreFault → Option Entry → Type 0) → Result A StoreFault → Type 0
CommandMakes meaning old bytes new Answers answer = (broken_by old.steps ≡ None) × (made : Option Entry) × Answers answer made × Becomes meaning old bytes new made

-- the note that the disks failed in a call
abbrev pub broke : {D : Type 0} → (D → Meaning) → Bool → BookView D → BookView D → Step
broke meaning made old new = Broke made (book_faults meaning old) (book_faults meaning new)

-- the disks failed while the command's entry was written: it counts as made, and the book is broken
abbrev pub BreaksWriting : {D A : Type 0} → (D → Meaning) → BookView D → BookView D → (Result A StoreFault → Option Entry → Type 0) → Type 0
BreaksWriting {D} {A} meaning old new Answers =
    (broken_by old.steps ≡ None) × (value : A) × (entry : Entry) × Answers (Ok value) (Some entry)
    × (new.cache.index ≡ (changed old.cache [] (Some entry)).index) × (new.steps ≡ old.steps ++ Change entry ∷ broke meaning true old new ∷ [])

-- the disks failed while bytes were read: nothing was made, and the book is broken
abbrev pub BreaksReading : {D : Type 0} → (D → Meaning) → BookView D → BookView D → Type 0
BreaksReading meaning old new = (broken_by old.steps ≡ None) × (new.cache ≡ old.cache) × (new.steps ≡ old.steps ++ broke meaning false old new ∷ [])

-- what a command with these bytes answers and leaves; a broken book does nothing, and want of memory changes nothing
abbrev pub CommandGives : {D A : Type 0} → (D → Meaning) → BookView D → List ℕ → BookView D → (Result A StoreFault → Option Entry → Type 0) → Result A StoreFault → Type 0
CommandGives meaning old bytes new Answers (Err (Broken faults)) = (broken_by old.steps ≡ Some faults) × Stays meaning old new
CommandGives meaning old bytes new Answers (Err NoMemory) = (broken_by old.steps ≡ None) × Stays meaning old new
CommandGives meaning old bytes new Answers (Err DiskFailed) = BreaksWriting meaning old new Answers
CommandGives meaning old bytes new Answers answer = CommandMakes meaning old bytes new Answers answer

-- the same of a command that reads bytes of blobs, and brings none
abbrev pub ReaderGives : {D A : Type 0} → (D → Meaning) → BookView D → BookView D → (Result A StoreFault → Option Entry → Type 0) → Result A StoreFault → Type 0
ReaderGives meaning old new Answers (Err DiskFailed) = BreaksWriting meaning old new Answers ⊎ BreaksReading meaning old new
ReaderGives meaning old new Answers answer = CommandGives meaning old [] new Answers answer

-- a command that makes no entry gives one of these answers
abbrev pub Only : {A : Type 0} → (Result A StoreFault → Type 0) → Result A StoreFault → Option Entry → Type 0
Only Answers answer made = Answers answer × (made ≡ None)

-- ---- what a crash leaves

-- it opens to this cache, and the blob file holds each blob to its end
pub record OpensWhole (limits : Limits) (im : Images) (cache : Cache) : Type 0 where
  pub opens : OpensAs limits im cache
  pub reach : AllReach im.blobs cache.index

-- the change after so many steps, where there is one
abbrev pub change_in : List Step → Option Entry
change_in [] = None
change_in (Change entry ∷ steps) = Some entry
change_in (step ∷ steps) = None

-- the state after a call that was given these bytes: what its change leaves of the state before
abbrev pub next_cache : {D : Type 0} → BookView D → List ℕ → BookView D → Cache
next_cache old bytes new = changed old.cache bytes (change_in (drop (length old.steps) new.steps))

-- how the devices go on: where each blob was within the blob file before, a crash at any moment of the call opens to the state
-- before it or after it, bytes included, and unless the book broke each blob is within the blob file afterwards
pub record GoesOn {D : Type 0} (tells : Bool) (meaning : D → Meaning) (old : BookView D) (bytes : List ℕ) (new : BookView D) : Type 0 where
  pub opened : new.opened ≡ old.opened
  pub later : book_faults meaning old ≤ book_faults meaning new
  pub past : EachSince (book_line meaning old) (book_line meaning new) (λ _. Unit {0})
  pub reaches : IsTrue tells → broken_by new.steps ≡ None → Reaches meaning old → Reaches meaning new
  pub crash : IsTrue tells → broken_by old.steps ≡ None → Reaches meaning old
      → EachSince (book_line meaning old) (book_line meaning new) (λ im. OpensWhole (limits_of old) im old.cache ⊎ OpensWhole (limits_of old) im (next_cache old bytes new))

-- ---- answers

-- an object and its hash
abbrev pub got : Result Held StoreFault → Result (IoHash × List ℕ) StoreFault
got (Ok held) = Ok (held.hash, held.bytes)
got (Err fault) = Err fault

-- what making an entry with these bytes gives
abbrev pub Commits : {D : Type 0} → (D → Meaning) → BookView D → Entry → List ℕ → BookView D → Result (Unit {0}) StoreFault → Type 0
Commits meaning old entry bytes new result = CommandGives meaning old bytes new (λ answer made. (answer ≡ Ok tt) × (made ≡ Some entry)) result

-- the bytes that were opened
abbrev pub opened_bytes : Result Opened StoreFault → Result (List ℕ) StoreFault
opened_bytes (Ok (Whole bytes)) = Ok bytes
opened_bytes (Err fault) = Err fault

-- what a book answers to a question for absent blobs
abbrev pub IsExist : {D : Type 0} → BookView D → List ℕ → List IoHash → Result (List IoHash) StoreFault → Type 0
IsExist book space hashes answer = (table : Result (List IoHash) StoreFault) × ExistAs book.cache.index space hashes table × (answer ≡ unless_broken book.steps table)
