-- What is asked of an entry before a book makes it, and the parts of what its commands give.
use Rattle.std.specs.Prelude.{◌≡◌, ◌⊎◌, ℕ, Bool, true, List, [], ◌∷◌, ◌++◌, length, Option, None, Some, unwrap_or, if◌then◌else◌, ⊤}
use Rattle.std.specs.FinMap.{len}
use Rattle.ddc_disk.specs.Disk.{Meaning, overwritten}
use Rattle.ddc_disk.specs.Images.{Images}
use Rattle.ddc_journal.specs.Pairs.{IsPairOf}
use Rattle.ddc_entry.specs.Spelling.{RemovalCountFits}
use Rattle.ddc_names.specs.declared.reference.RefName.{RefName}
use Rattle.ddc_model.specs.declared.rows.Extent.{Extent}
use Rattle.ddc_model.specs.declared.entry.Stored.{Stored}
use Rattle.ddc_model.specs.declared.entry.Entry.{Entry}
use Rattle.ddc_model.specs.declared.fault.StoreFault.{StoreFault}
use Rattle.ddc_model.specs.declared.fault.StoreFault.TheVariants.{Broken, Full, NoMemory, DiskFailed}
use Rattle.ddc_model.specs.declared.fault.What.TheVariants.{Spaces, Blobs, Refs, Links, Units}
use Rattle.ddc_model.specs.State.{State}
use Rattle.ddc_model.specs.Extents.{extent}
use Rattle.ddc_model.specs.Entries.{after, extent_of, legal}
use Rattle.ddc_model.specs.Counts.{fresh_of, lacks_run, link_count, added_blobs, added_links, passes}
use Rattle.ddc_model.specs.Sound.{Cache, AreWhole, IsSound}
use Rattle.ddc_model.specs.Commands.{changed, touch_entry}
use Rattle.ddc_model.specs.History.{broken_by, no_room_for, IsLawful, Leases, Past}
use Rattle.ddc_model.specs.Reads.{where_room}
use Rattle.blob_store.specs.Bytes.{first_byte, ChangesOnly}
use Rattle.ddc_opening.specs.Opening.{version}
use Rattle.ddc_book.specs.View.{BookView}
use Rattle.ddc_book.specs.Calls.{Stays, GoesOn}

-- the bytes of the blob that an entry adds, and none where it adds none
abbrev pub bytes_or_none : Option (List ℕ) → List ℕ
bytes_or_none bytes = unwrap_or bytes []

-- a blob comes with an entry exactly where the entry adds one, and has its length
abbrev pub Brings : Option Stored → Option (List ℕ) → Type 0
Brings None None = ⊤
Brings (Some fresh) (Some bytes) = fresh.len ≡ length bytes
Brings None (Some bytes) = ⊥
Brings (Some fresh) None = ⊥

abbrev pub fresh_length : Option Stored → ℕ
fresh_length (Some fresh) = fresh.len
fresh_length None = 0

-- where the blob goes that an entry adds; nowhere, where it adds none
abbrev pub place_of : Option Stored → Extent
place_of (Some fresh) = extent_of fresh
place_of None = extent 0 0

-- the blob file with these bytes at an extent; no bytes change nothing
abbrev pub with_bytes : List ℕ → Extent → List ℕ → List ℕ
with_bytes file place [] = file
with_bytes file place (b ∷ bs) = overwritten file (first_byte place) (b ∷ bs)

-- while an entry is written: the journal is as before and only the extent changes, or it has the body and the bytes are there
abbrev pub Between : List (List ℕ) → List ℕ → List ℕ → Extent → List ℕ → Images → Type 0
Between bodies body file place bytes im =
    (IsPairOf version bodies im.first im.second × ChangesOnly place file im.blobs)
    ⊎ (IsPairOf version (bodies ++ body ∷ []) im.first im.second × (im.blobs ≡ with_bytes file place bytes))

-- a blob of no bytes, which has no units, stands at the unit 0
abbrev pub StartsLow : Option Stored → Type 0
StartsLow None = ⊤
StartsLow (Some fresh) = fresh.len ≡ 0 → fresh.start ≡ 0

-- the entry is legal and lawful, names as many references or blobs as it may, comes with its blob, and leaves the references
-- whole and what is sound sound
pub record IsFit (cache : Cache) (entry : Entry) (blob : Option (List ℕ)) : Type 0 where
  pub legal : legal cache.index entry ≡ true
  pub count_fits : RemovalCountFits entry
  pub starts : StartsLow (fresh_of entry)
  pub lawful : (leases : Leases) → IsLawful leases cache.index entry
  pub whole : AreWhole (after cache.index entry)
  pub brings : Brings (fresh_of entry) blob
  pub sound : IsSound cache → IsSound (changed cache (bytes_or_none blob) (Some entry))

-- nothing is done to a book: it stays as it is, and its devices go on
pub record IsStill {D : Type 0} (tells : Bool) (meaning : D → Meaning) (book : BookView D) : Type 0 where
  pub stays : Stays meaning book book
  pub goes : (bytes : List ℕ) → GoesOn tells meaning book bytes book

-- an unbroken book as each command finds it: its references are whole, and where nothing is done it stays
pub record IsServing {D : Type 0} (tells : Bool) (meaning : D → Meaning) (book : BookView D) : Type 0 where
  pub unbroken : broken_by book.steps ≡ None
  pub whole : AreWhole book.cache.index
  pub still : IsStill tells meaning book

-- a fault that is a command's answer, and not one of the book's own
abbrev pub IsRefusal : StoreFault → Type 0
IsRefusal (Broken faults) = ⊥
IsRefusal NoMemory = ⊥
IsRefusal DiskFailed = ⊥
IsRefusal fault = ⊤

-- the first limit that so many namespaces and references and a blob more would pass
abbrev pub full_by : State → ℕ → Option Stored → ℕ → Option StoreFault
full_by s spaces fresh refs =
    if passes (len s.spaces) spaces s.limits.spaces then Some (Full Spaces s.limits.spaces) else
    if passes (len s.blobs) (added_blobs fresh) s.limits.blobs then Some (Full Blobs s.limits.blobs) else
    if passes (len s.slots) refs s.limits.refs then Some (Full Refs s.limits.refs) else
    if passes (link_count s) (added_links fresh) s.limits.links then Some (Full Links s.limits.links) else
    if lacks_run s fresh then Some (Full Units s.limits.units) else
    None

-- the touch of a reference that is read, where the history has room for it
abbrev pub touch_with_room : State → Past → RefName → ℕ → Option Entry
touch_with_room s past name hour = where_room (no_room_for s past (touch_entry s name hour)) (touch_entry s name hour)
