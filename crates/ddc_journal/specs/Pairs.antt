-- What two journal files stand for together.
use Rattle.std.specs.Prelude.{◌≡◌, if◌then◌else◌, nat_lt, ℕ, Bool, false, List, [], length, IfSome}
use Rattle.ddc_disk.specs.Disk.{Meaning, IsCalm, IsImage, IsSure, EachSince}
use Rattle.ddc_disk.specs.Images.{devices_line}
use Rattle.ddc_disk.specs.declared.devices.Devices.{Devices}
use Rattle.ddc_journal.specs.Journal.{journal_bytes, is_made, rank, IsJournal}
use Rattle.ddc_journal.specs.Faults.{FileFault}
use Rattle.ddc_journal.specs.declared.kind.FileKind.{FileKind}
use Rattle.ddc_journal.specs.declared.fault.JournalFault.{JournalFault}

-- what an open pair knows: whether its second file is the active one, and that file's version,
-- generation and the place of its closing gate
pub record PairView : Type 0 where
  pub second : Bool
  pub version : ℕ
  pub generation : ℕ
  pub end : ℕ

-- of two files with an open gate the one with the greater generation is taken, and the first one where
-- both are equal
abbrev pub takes_second : List ℕ → List ℕ → Bool
takes_second first second = nat_lt (rank first) (rank second)

abbrev pub taken : List ℕ → List ℕ → List ℕ
taken first second = if takes_second first second then second else first

-- the files of a pair: the second has the number 1, and versions from 1 to the newest are known
abbrev pub pair_kind : ℕ → Bool → FileKind
pair_kind newest second = record { number = if second then 1 else 0; least = 1; most = newest }

-- the taken file is a journal of this version and of these bodies
pub record IsPairOf (version : ℕ) (bodies : List (List ℕ)) (first second : List ℕ) : Type 0 where
  pub generation : ℕ
  pub loads : IsJournal version generation bodies (taken first second)

-- the causes of the faults of a pair are those of the taken file; no file is made where that isn't
abbrev pub PairFault : ℕ → List ℕ → List ℕ → JournalFault → Type 0
PairFault newest first second fault = FileFault (pair_kind newest (takes_second first second)) (taken first second) fault

-- neither file is made
abbrev pub NoneMade : List ℕ → List ℕ → Type 0
NoneMade first second = (is_made first ≡ false) × (is_made second ≡ false)

-- what holds of the two files that devices tell
abbrev pub IfBoth : {D : Type 0} → (D → Meaning) → Devices D → (List ℕ → List ℕ → Type 0) → Type 0
IfBoth meaning devices P = IfSome (meaning devices.first).held (λ first. IfSome (meaning devices.second).held (λ second. P first second))

-- of these two files the taken one is the active journal that the pair knows, with these bodies
pub record IsOpenPair (first second : List ℕ) (pair : PairView) (bodies : List (List ℕ)) : Type 0 where
  pub active : pair.second ≡ takes_second first second
  pub journal : IsJournal pair.version pair.generation bodies (taken first second)
  pub place : pair.end ≡ length (journal_bytes pair.version pair.generation bodies)

-- both disks are sure of files, and these are such a pair
pub record IsPairReady {D : Type 0} (meaning : D → Meaning) (devices : Devices D) (pair : PairView) (bodies : List (List ℕ)) : Type 0 where
  pub first : List ℕ
  pub second : List ℕ
  pub first_sure : IsSure (meaning devices.first) first
  pub second_sure : IsSure (meaning devices.second) second
  pub opened : IsOpenPair first second pair bodies

-- both disks are sure of files: the first is an empty journal of this version and of the generation 1, and the second
-- isn't made
pub record IsNewPair {D : Type 0} (meaning : D → Meaning) (devices : Devices D) (version : ℕ) : Type 0 where
  pub first : List ℕ
  pub second : List ℕ
  pub first_sure : IsSure (meaning devices.first) first
  pub second_sure : IsSure (meaning devices.second) second
  pub journal : IsJournal version 1 [] first
  pub unmade : is_made second ≡ false

-- nothing was written: the disks hold what they held, and no crash leaves anything new
pub record Looks (old new : Meaning) : Type 0 where
  pub held : new.held ≡ old.held
  pub calm : IsCalm old.line new.line

pub record LooksOnly {D : Type 0} (meaning : D → Meaning) (old new : Devices D) : Type 0 where
  pub first : Looks (meaning old.first) (meaning new.first)
  pub second : Looks (meaning old.second) (meaning new.second)
  pub blobs : new.blobs ≡ old.blobs
  pub past : EachSince (devices_line meaning old) (devices_line meaning new) (IsImage (devices_line meaning old))
