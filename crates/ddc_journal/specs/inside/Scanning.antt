-- What the scan of a file meets.
use Rattle.std.specs.Prelude.{◌≡◌, ◌≢◌, ◌⊎◌, ◌<◌, ◌≤◌, ◌+◌, ◌-◌, ◌^◌, ℕ, true, false, List, ◌∷◌, ◌++◌, length, take, drop}
use Rattle.std.specs.Int.{to_le_bytes, w32}
use Rattle.ddc_journal.specs.Journal.{magic, front_size, items, head_bytes, journal_bytes, AreSized, IsJournal, version_in, generation_in, is_made}
use Rattle.ddc_journal.specs.Faults.{HasHead, LacksItem, IsKnown}
use Rattle.ddc_journal.specs.declared.kind.FileKind.{FileKind}
use Rattle.ddc_journal.specs.declared.parse.Stop.{Stop}
use Rattle.ddc_journal.specs.declared.parse.Stop.TheVariants.{Closed, Lacks}
use Rattle.ddc_journal.specs.declared.fault.JournalFault.{JournalFault}
use Rattle.ddc_journal.specs.declared.fault.JournalFault.TheVariants.{DiskFailed, NotMade, Corrupt, BadVersion, NoMemory}

-- after these items stands a gate that isn't open
pub record EndsAt (bodies : List (List ℕ)) (end : ℕ) (bytes : List ℕ) : Type 0 where
  pub gate : ℕ
  pub rest : List ℕ
  pub closed : gate ≢ 1
  pub split : bytes ≡ items bodies ++ gate ∷ rest
  pub sized : AreSized bodies
  pub place : end ≡ front_size + length (items bodies)

-- after these items stands an open gate whose item isn't whole
pub record BreaksIn (at : ℕ) (bytes : List ℕ) : Type 0 where
  pub bodies : List (List ℕ)
  pub rest : List ℕ
  pub split : bytes ≡ items bodies ++ 1 ∷ rest
  pub sized : AreSized bodies
  pub broken : LacksItem (1 ∷ rest)
  pub place : at ≡ front_size + length (items bodies)

-- why items can't be read
abbrev pub ItemFault : ℕ → List ℕ → JournalFault → Type 0
ItemFault number bytes (Corrupt which at) = (which ≡ number) × BreaksIn at bytes
ItemFault number bytes NoMemory = Unit {0}
ItemFault number bytes NotMade = ⊥
ItemFault number bytes (BadVersion found) = ⊥
ItemFault number bytes DiskFailed = ⊥

-- why a file that begins so is no journal, whatever its items are
abbrev pub HeadFault : FileKind → List ℕ → JournalFault → Type 0
HeadFault kind front NotMade = is_made front ≡ false
HeadFault kind front (Corrupt which at) = (is_made front ≡ true) × (which ≡ kind.number) × (((at ≡ 0) × (take 8 front ≢ magic)) ⊎ ((at ≡ 20) × HasHead kind front × (length front ≡ 21)))
HeadFault kind front (BadVersion found) = (is_made front ≡ true) × (take 8 front ≡ magic) × (found ≡ version_in front) × ¬ (IsKnown kind found)
HeadFault kind front DiskFailed = ⊥
HeadFault kind front NoMemory = ⊥

-- the head of a journal with an open gate, and items after it
pub record IsOpen (kind : FileKind) (bytes items : List ℕ) : Type 0 where
  pub split : bytes ≡ head_bytes (version_in bytes) (generation_in bytes) ++ 1 ∷ items
  pub known : IsKnown kind (version_in bytes)
  pub numbered : (0 < generation_in bytes) × (generation_in bytes < 2 ^ 64)
  pub some : 0 < length items

-- the file is a journal of a known version, and these are its parts
pub record IsScan (kind : FileKind) (file : List ℕ) (version generation : ℕ) (bodies : List (List ℕ)) (end : ℕ) : Type 0 where
  pub version_is : version ≡ version_in file
  pub generation_is : generation ≡ generation_in file
  pub known : IsKnown kind version
  pub loads : IsJournal version generation bodies file
  pub place : end ≡ length (journal_bytes version generation bodies)

-- ---- pieces of a file

-- a gate that isn't open stands at the front
pub record IsShut (bytes : List ℕ) : Type 0 where
  pub gate : ℕ
  pub rest : List ℕ
  pub closed : gate ≢ 1
  pub split : bytes ≡ gate ∷ rest

-- an open gate stands at the front, and its item needs this many bytes, with the gate after it: 6, or more where the
-- item's length stands there
pub record NeedsAt (need : ℕ) (bytes : List ℕ) : Type 0 where
  pub least : 6 ≤ need
  pub most : need < 6 + 2 ^ 32
  pub gate : bytes ≡ 1 ∷ drop 1 bytes
  pub named : 6 < need → bytes ≡ 1 ∷ to_le_bytes w32 (need - 6) ++ drop 5 bytes

-- what stands where no more items are taken
abbrev pub StopsAt : Stop → List ℕ → Type 0
StopsAt Closed bytes = IsShut bytes
StopsAt (Lacks need) bytes = NeedsAt need bytes

-- these bytes end before the item does
abbrev pub IsCut : Stop → List ℕ → Type 0
IsCut Closed bytes = Unit {0}
IsCut (Lacks need) bytes = length bytes < need

-- the whole items at the front of these bytes are taken: they have so many bytes, and more bodies are there
pub record TakesItems (olds news : List (List ℕ)) (bytes : List ℕ) (count : ℕ) (stop : Stop) : Type 0 where
  pub rest : List ℕ
  pub split : items olds ++ bytes ≡ items news ++ rest
  pub size : count + length rest ≡ length bytes
  pub some : 0 < length rest
  pub stops : StopsAt stop rest
  pub is_cut : IsCut stop rest
  pub sized : AreSized olds → AreSized news

-- between the head of the file and this place stand the items of these bodies, and the file goes on there
pub record IsReadTo (bodies : List (List ℕ)) (at : ℕ) (file : List ℕ) : Type 0 where
  pub split : drop 21 file ≡ items bodies ++ drop at file
  pub sized : AreSized bodies
  pub place : at ≡ front_size + length (items bodies)
  pub inside : at < length file

-- a window takes an item, unless the item is longer than it or than the file (of `size` bytes)
abbrev pub GoesOn : Stop → ℕ → ℕ → ℕ → Type 0
GoesOn Closed size old new = Unit {0}
GoesOn (Lacks need) size old new = need ≤ 65536 → new + need ≤ size → old < new
