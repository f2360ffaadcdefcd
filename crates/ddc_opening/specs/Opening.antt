-- What the devices of a store open to.
use Rattle.std.specs.Prelude.{◌≡◌, ◌⊎◌, ℕ, ◌+◌, ◌≤◌, true, List, [], ◌∷◌, ◌++◌, map, length, Some}
use Rattle.std.specs.FinMap.{FinMap, get, entries, from_entries}
use Rattle.ddc_disk.specs.Images.{Images}
use Rattle.ddc_journal.specs.Journal.{front_size, items}
use Rattle.ddc_journal.specs.Pairs.{pair_kind, takes_second, IsPairOf, PairFault}
use Rattle.ddc_journal.specs.declared.fault.JournalFault.TheVariants as journal
use Rattle.ddc_model.specs.declared.rows.Blob.{Blob}
use Rattle.ddc_model.specs.declared.rows.BlobName.{BlobName}
use Rattle.ddc_model.specs.declared.rows.Limits.{Limits}
use Rattle.ddc_model.specs.declared.entry.Entry.{Entry}
use Rattle.ddc_model.specs.Keys.{blob_cmp}
use Rattle.ddc_model.specs.State.{State, empty_state}
use Rattle.ddc_model.specs.Entries.{after, legal}
use Rattle.ddc_model.specs.Sound.{Cache, AreWhole, IsFirstUnsound, IsSound}
use Rattle.ddc_entry.specs.Spelling.{spelling, IsEntry}
use Rattle.blob_store.specs.Bytes.{first_byte, bytes_from}
use Rattle.ddc_opening.specs.declared.fault.OpenFault.{OpenFault}
use Rattle.ddc_opening.specs.declared.fault.OpenFault.TheVariants.{DiskFailed, NotMade, Corrupt, BadVersion, Unsound, NoMemory}

-- ---- the entries of the journal

-- the version of a store's journal files
abbrev pub version : ℕ
version = 1

-- the bodies are these entries, each as it is spelled
abbrev pub AreSpelled : List (List ℕ) → List Entry → Type 0
AreSpelled [] [] = Unit {0}
AreSpelled (body ∷ bodies) (entry ∷ others) = IsEntry entry × (body ≡ spelling entry) × AreSpelled bodies others
AreSpelled bodies others = ⊥

-- the state after all of the entries
abbrev pub after_all : State → List Entry → State
after_all s [] = s
after_all s (entry ∷ others) = after_all (after s entry) others

-- each entry is legal after those before it
abbrev pub AreLegal : State → List Entry → Type 0
AreLegal s [] = Unit {0}
AreLegal s (entry ∷ others) = (legal s entry ≡ true) × AreLegal (after s entry) others

-- two journal files hold these entries, each of which is legal after those before it
pub record HoldEntries (limits : Limits) (first second : List ℕ) (all : List Entry) : Type 0 where
  pub bodies : List (List ℕ)
  pub loads : IsPairOf version bodies first second
  pub spelled : AreSpelled bodies all
  pub are_legal : AreLegal (empty_state limits) all

-- they hold entries that lead from nothing to this state
abbrev pub HoldState : Limits → List ℕ → List ℕ → State → Type 0
HoldState limits first second s = (all : List Entry) × HoldEntries limits first second all × (s ≡ after_all (empty_state limits) all)

-- ---- the bytes of the blobs

-- what the blob file gives as the bytes of a blob: those at its extent
abbrev pub bytes_at : List ℕ → Blob → List ℕ
bytes_at file blob = bytes_from file (first_byte blob.row.extent) blob.row.len

-- and as those of each blob
unfoldable pub bytes_in : List ℕ → FinMap blob_cmp Blob → FinMap blob_cmp (List ℕ)
bytes_in file blobs = from_entries (map (λ (e : BlobName × Blob). (e.0, bytes_at file e.1)) (entries blobs))

-- a state, with the bytes that the blob file gives
abbrev pub cache_in : List ℕ → State → Cache
cache_in file s = record { index = s; bytes = Some (bytes_in file s.blobs) }

-- each blob ends within the blob file
abbrev pub AllReach : List ℕ → State → Type 0
AllReach file s = (name : BlobName) (blob : Blob) → get s.blobs name ≡ Some blob → first_byte blob.row.extent + blob.row.len ≤ length file

-- ---- what an image opens to

-- the journal leads to this state, the blob file gives these bytes, and of each finalised reference the whole closure is there
pub record OpensAs (limits : Limits) (im : Images) (cache : Cache) : Type 0 where
  pub holds : HoldState limits im.first im.second cache.index
  pub bytes : cache.bytes ≡ Some (bytes_in im.blobs cache.index.blobs)
  pub whole : AreWhole cache.index

-- and each blob has its bytes, within the file
pub record OpensSound (limits : Limits) (im : Images) (cache : Cache) : Type 0 where
  pub opens : OpensAs limits im cache
  pub sound : IsSound cache
  pub reach : AllReach im.blobs cache.index

-- ---- why devices don't open

-- a body that is no entry, or none that is legal
abbrev pub IsNoChange : State → List ℕ → Type 0
IsNoChange s body = (entry : Entry) → IsEntry entry → body ≡ spelling entry → legal s entry ≡ true → ⊥

-- after good bodies stands one that is no change; its item's gate is at this place of the file that is taken
pub record HasNoChangeAt (limits : Limits) (first second : List ℕ) (at : ℕ) : Type 0 where
  pub good : List (List ℕ)
  pub bad : List ℕ
  pub others : List (List ℕ)
  pub all : List Entry
  pub loads : IsPairOf version (good ++ bad ∷ others) first second
  pub spelled : AreSpelled good all
  pub are_legal : AreLegal (empty_state limits) all
  pub no_change : IsNoChange (after_all (empty_state limits) all) bad
  pub place : at ≡ front_size + length (items good)

-- the number of the file that is taken
abbrev pub taken_number : List ℕ → List ℕ → ℕ
taken_number first second = (pair_kind version (takes_second first second)).number

-- the cause of each fault in the bytes of the two files: DiskFailed has none there, and want of memory needs none
abbrev pub OpenFaultOf : Limits → List ℕ → List ℕ → OpenFault → Type 0
OpenFaultOf limits first second NotMade = PairFault version first second journal.NotMade
OpenFaultOf limits first second (Corrupt which at) = PairFault version first second (journal.Corrupt which at) ⊎ ((which ≡ taken_number first second) × HasNoChangeAt limits first second at)
OpenFaultOf limits first second (BadVersion found) = PairFault version first second (journal.BadVersion found)
OpenFaultOf limits first second (Unsound name) = (s : State) × HoldState limits first second s × IsFirstUnsound s name
OpenFaultOf limits first second DiskFailed = ⊥
OpenFaultOf limits first second NoMemory = Unit {0}
