-- Why the bytes of a file are no journal.
use Rattle.std.specs.Prelude.{◌≡◌, ◌≢◌, ◌⊎◌, ◌<◌, ◌≤◌, ◌+◌, ◌^◌, ℕ, true, false, List, ◌∷◌, ◌++◌, length, take}
use Rattle.ddc_journal.specs.Journal.{magic, front_size, framed, items, spelled, AreSized, Loads, single_version, version_in, generation_in, is_made}
use Rattle.ddc_journal.specs.declared.kind.FileKind.{FileKind}
use Rattle.ddc_journal.specs.declared.fault.JournalFault.{JournalFault}
use Rattle.ddc_journal.specs.declared.fault.JournalFault.TheVariants.{DiskFailed, NotMade, Corrupt, BadVersion, NoMemory}

-- no whole item stands at the front: an open gate, a length, a body of that length, the next gate
abbrev pub LacksItem : List ℕ → Type 0
LacksItem bytes = (body : List ℕ) (gate : ℕ) (rest : List ℕ) → length body < 2 ^ 32 → bytes ≡ 1 ∷ framed body ++ gate ∷ rest → ⊥

-- after the head, the open gate and whole items an open gate stands at this place, and its item isn't whole
pub record BreaksAt (at : ℕ) (file : List ℕ) : Type 0 where
  pub bodies : List (List ℕ)
  pub rest : List ℕ
  pub split : file ≡ take 20 file ++ 1 ∷ (items bodies ++ 1 ∷ rest)
  pub sized : AreSized bodies
  pub broken : LacksItem (1 ∷ rest)
  pub place : at ≡ front_size + length (items bodies)

-- files of this kind may have this version
abbrev pub IsKnown : FileKind → ℕ → Type 0
IsKnown kind version = (kind.least ≤ version) × (version ≤ kind.most)

-- the file begins as a journal of a known version does
abbrev pub HasHead : FileKind → List ℕ → Type 0
HasHead kind file = (take 8 file ≡ magic) × IsKnown kind (version_in file)

-- other bytes at the front; a file that ends with its gate; an item that isn't whole
abbrev pub IsCorrupt : FileKind → ℕ → List ℕ → Type 0
IsCorrupt kind at file = ((at ≡ 0) × (take 8 file ≢ magic)) ⊎ ((at ≡ 20) × HasHead kind file × (length file ≡ 21)) ⊎ (HasHead kind file × BreaksAt at file)

-- the cause of each fault in the bytes: DiskFailed has none there, and want of memory needs none
abbrev pub FileFault : FileKind → List ℕ → JournalFault → Type 0
FileFault kind file NotMade = is_made file ≡ false
FileFault kind file (Corrupt which at) = (is_made file ≡ true) × (which ≡ kind.number) × IsCorrupt kind at file
FileFault kind file (BadVersion found) = (is_made file ≡ true) × (take 8 file ≡ magic) × (found ≡ version_in file) × ¬ (IsKnown kind found)
FileFault kind file DiskFailed = ⊥
FileFault kind file NoMemory = Unit {0}

-- ---- a journal that stands alone

abbrev pub single_kind : FileKind
single_kind = record { number = 0; least = single_version; most = single_version }

abbrev pub FaultOf : List ℕ → JournalFault → Type 0
FaultOf file fault = FileFault single_kind file fault

-- the file loads as these bodies, with the closing gate at `end`
abbrev pub LoadsAs : List ℕ → List (List ℕ) → ℕ → Type 0
LoadsAs file bodies end = Loads (generation_in file) bodies file × (end ≡ length (spelled (generation_in file) bodies))
