-- What the commands that read answer, from a state and the bytes of its blobs, and which blobs are absent.
use Rattle.std.specs.Prelude.{◌≡◌, ℕ, Bool, true, false, List, Option, None, Some, is_some, Result, Ok, Err, IsTrue, ◌↔◌, if◌then◌else◌}
use Rattle.std.specs.FinMap.{get}
use Rattle.std.specs.List.Sorted.{IsStrictlySortedBy}
use Rattle.ddc_names.specs.declared.hash.IoHash.{IoHash}
use Rattle.ddc_names.specs.declared.reference.RefName.{RefName}
use Rattle.ddc_names.specs.Orders.{io_hash_cmp}
use Rattle.ddc_model.specs.declared.rows.Blob.{Blob}
use Rattle.ddc_model.specs.declared.entry.Entry.{Entry}
use Rattle.ddc_model.specs.declared.entry.Entry.TheVariants.{Delete}
use Rattle.ddc_model.specs.declared.fault.StoreFault.{StoreFault}
use Rattle.ddc_model.specs.declared.fault.StoreFault.TheVariants.{UnknownSpace, NotFound, Damaged}
use Rattle.ddc_model.specs.State.{State, blob_at, has_blob, has_space}
use Rattle.ddc_model.specs.Entries.{same_hash}
use Rattle.ddc_model.specs.Content.{content_hash}
use Rattle.ddc_model.specs.Closure.{has_hash}
use Rattle.ddc_model.specs.Sound.{Cache}
use Rattle.ddc_model.specs.Commands.{EntryWhere, GetAs, MayRead, hour_of, object_of}
use Rattle.ddc_model.specs.History.{Past, no_room_for}

-- ---- blobs

-- bytes are served under this name, or are damaged
abbrev pub undamaged : IoHash → List ℕ → Result (List ℕ) StoreFault
undamaged hash bytes = if same_hash (content_hash bytes) hash then Ok bytes else Err (Damaged hash (content_hash bytes))

-- the bytes of a blob, where they have its hash
abbrev pub ServesFound : Option Blob → Cache → List ℕ → IoHash → Result (List ℕ) StoreFault → Type 0
ServesFound None cache space hash answer = answer ≡ Err NotFound
ServesFound (Some blob) cache space hash answer = (bytes : List ℕ) × MayRead cache space hash bytes × (answer ≡ undamaged hash bytes)

abbrev pub ServesWhere : Bool → Cache → List ℕ → IoHash → Result (List ℕ) StoreFault → Type 0
ServesWhere true cache space hash answer = ServesFound (blob_at cache.index space hash) cache space hash answer
ServesWhere false cache space hash answer = answer ≡ Err UnknownSpace

abbrev pub ServesAs : Cache → List ℕ → IoHash → Result (List ℕ) StoreFault → Type 0
ServesAs cache space hash answer = ServesWhere (has_space cache.index space) cache space hash answer

-- whether they have
abbrev pub sound_or : {A : Type 0} → Result A StoreFault → Result (Unit {0}) StoreFault
sound_or (Ok bytes) = Ok tt
sound_or (Err fault) = Err fault

abbrev pub VerifiesAs : Cache → List ℕ → IoHash → Result (Unit {0}) StoreFault → Type 0
VerifiesAs cache space hash answer = (served : Result (List ℕ) StoreFault) × ServesAs cache space hash served × (answer ≡ sound_or served)

abbrev pub len_found : Option Blob → Result ℕ StoreFault
len_found (Some blob) = Ok blob.row.len
len_found None = Err NotFound

-- the length of a blob in bytes
abbrev pub length_at : State → List ℕ → IoHash → Result ℕ StoreFault
length_at s space hash = if has_space s space then len_found (blob_at s space hash) else Err UnknownSpace

-- the hashes that are named and have no blob, ascending and each once
pub record AreAbsent (s : State) (space : List ℕ) (hashes absent : List IoHash) : Type 0 where
  pub ascending : IsStrictlySortedBy io_hash_cmp absent
  pub exactly : (hash : IoHash) → IsTrue (has_hash absent hash) ↔ (IsTrue (has_hash hashes hash) × (has_blob s space hash ≡ false))

abbrev pub ExistWhere : Bool → State → List ℕ → List IoHash → Result (List IoHash) StoreFault → Type 0
ExistWhere true s space hashes answer = (absent : List IoHash) × AreAbsent s space hashes absent × (answer ≡ Ok absent)
ExistWhere false s space hashes answer = answer ≡ Err UnknownSpace

abbrev pub ExistAs : State → List ℕ → List IoHash → Result (List IoHash) StoreFault → Type 0
ExistAs s space hashes answer = ExistWhere (has_space s space) s space hashes answer

-- ---- references

abbrev pub paired : {A : Type 0} → IoHash → Result A StoreFault → Result (IoHash × A) StoreFault
paired hash (Ok a) = Ok (hash, a)
paired hash (Err fault) = Err fault

abbrev pub with_length : State → List ℕ → Result IoHash StoreFault → Result (IoHash × ℕ) StoreFault
with_length s space (Ok hash) = paired hash (len_found (blob_at s space hash))
with_length s space (Err fault) = Err fault

-- the hash and the length of the finalised object of a reference
abbrev pub peek : State → RefName → Result (IoHash × ℕ) StoreFault
peek s name = with_length s name.space (object_of s name)

-- an entry, where the history has room for it
abbrev pub where_room : Option StoreFault → Option Entry → Option Entry
where_room None entry = entry
where_room (Some fault) entry = None

abbrev pub ServedWhere : Result (List ℕ) StoreFault → State → Past → IoHash → Option Entry → Result (IoHash × List ℕ) StoreFault → Option Entry → Type 0
ServedWhere (Ok bytes) s past hash entry answer made = (answer ≡ Ok (hash, bytes)) × (made ≡ where_room (no_room_for s past entry) entry)
ServedWhere (Err fault) s past hash entry answer made = (answer ≡ Err fault) × (made ≡ None)

-- what is served of a finalised object, and the entry that is made
abbrev pub HeldWhere : State → Past → Result (IoHash × List ℕ) StoreFault → Option Entry → Result (IoHash × List ℕ) StoreFault → Option Entry → Type 0
HeldWhere s past (Err fault) entry answer made = (answer ≡ Err fault) × (made ≡ None)
HeldWhere s past (Ok got) entry answer made = ServedWhere (undamaged got.0 got.1) s past got.0 entry answer made

-- the finalised object of a reference and its hash; where the history has no room the reference isn't touched
abbrev pub HeldAs : Cache → Past → RefName → ℕ → Result (IoHash × List ℕ) StoreFault → Option Entry → Type 0
HeldAs cache past name hour answer made =
    (got : Result (IoHash × List ℕ) StoreFault) × (entry : Option Entry) × GetAs cache name hour got entry × HeldWhere cache.index past got entry answer made

-- ---- taking a reference away

abbrev pub delete_entry : State → RefName → ℕ → Result (Option Entry) StoreFault
delete_entry s name hour = if has_space s name.space then (if is_some (get s.slots name) then Ok (Some (Delete name (hour_of s hour))) else Err NotFound) else Err UnknownSpace

abbrev pub DeleteAs : State → RefName → ℕ → Result (Unit {0}) StoreFault → Option Entry → Type 0
DeleteAs s name hour answer made = EntryWhere (delete_entry s name hour) answer made
