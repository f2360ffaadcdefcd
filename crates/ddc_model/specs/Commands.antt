-- What each command answers in a state, and the entry that it makes.
use Rattle.std.specs.Prelude.{◌≡◌, ℕ, Bool, true, false, List, [], ◌∷◌, length, Option, None, Some, option_map, Result, Ok, Err, max, nat_lt, if◌then◌else◌}
use Rattle.std.specs.FinMap.{FinMap, get, insert}
use Rattle.std.specs.Option.{unwrap_or}
use Rattle.ddc_names.specs.declared.hash.IoHash.{IoHash}
use Rattle.ddc_names.specs.declared.reference.RefName.{RefName}
use Rattle.ref_store.specs.declared.slot.Slot.{Slot}
use Rattle.ddc_model.specs.declared.rows.Blob.{Blob}
use Rattle.ddc_model.specs.declared.entry.Stored.{Stored}
use Rattle.ddc_model.specs.declared.entry.Entry.{Entry}
use Rattle.ddc_model.specs.declared.entry.Entry.TheVariants.{Space, Upload, Repin, Put, Finalise, Touch, Swept}
use Rattle.ddc_model.specs.declared.fault.StoreFault.{StoreFault}
use Rattle.ddc_model.specs.declared.fault.StoreFault.TheVariants.{UnknownSpace, NotFound, NotFinalised, NotPending}
use Rattle.ddc_model.specs.Keys.{blob_cmp}
use Rattle.ddc_model.specs.State.{State, blob_name, blob_at, has_space}
use Rattle.ddc_model.specs.Extents.{units_of, free_run}
use Rattle.ddc_model.specs.Entries.{after, is_hash, with_put_root, without_hashes}
use Rattle.ddc_model.specs.Content.{Content, content_hash}
use Rattle.ddc_model.specs.Closure.{links_in, AreNeeds}
use Rattle.ddc_model.specs.Counts.{full}
use Rattle.ddc_model.specs.Sound.{Cache, Tells}

-- the hour of an entry: the command's, or the state's where that is later
abbrev pub hour_of : State → ℕ → ℕ
hour_of s hour = max s.hour hour

-- where the bytes of a blob that is added stand: in the first run of free units that holds them
abbrev pub first_unit : State → List ℕ → ℕ
first_unit s bytes = unwrap_or (free_run s (units_of (length bytes))) 0

-- a blob of these contents, as it is added to a state
abbrev pub stored_content : State → Content → Stored
stored_content s content = record { hash = content_hash content.bytes; len = length content.bytes; start = first_unit s content.bytes; links = content.links }

-- an entry, where the limits have room for it
abbrev pub unless : {A : Type 0} → Option StoreFault → A → Result A StoreFault
unless None made = Ok made
unless (Some fault) made = Err fault

abbrev pub with_room : State → Option Entry → Result (Option Entry) StoreFault
with_room s (Some entry) = unless (full s entry) (Some entry)
with_room s None = Ok None

-- the answer of a command that says only that its entry was made
abbrev pub EntryWhere : Result (Option Entry) StoreFault → Result (Unit {0}) StoreFault → Option Entry → Type 0
EntryWhere (Ok entry) answer made = (answer ≡ Ok tt) × (made ≡ entry)
EntryWhere (Err fault) answer made = (answer ≡ Err fault) × (made ≡ None)

-- ---- making a namespace

-- a namespace is made, or its times are set
abbrev pub SpaceAs : State → List ℕ → ℕ → ℕ → Result (Unit {0}) StoreFault → Option Entry → Type 0
SpaceAs s space ttl pin answer made = EntryWhere (with_room s (Some (Space space ttl pin))) answer made

-- ---- storing a blob

-- a blob that isn't there is added, and one that was stored or named at an earlier hour is pinned
abbrev pub upload_where : State → Option Blob → List ℕ → Content → ℕ → Option Entry
upload_where s None space content hour = Some (Upload space hour (stored_content s content))
upload_where s (Some blob) space content hour = if nat_lt blob.row.at hour then Some (Repin space (content_hash content.bytes) hour) else None

abbrev pub upload_entry : State → List ℕ → Content → ℕ → Result (Option Entry) StoreFault
upload_entry s space content hour =
    if has_space s space then with_room s (upload_where s (blob_at s space (content_hash content.bytes)) space content (hour_of s hour)) else Err UnknownSpace

abbrev pub UploadAs : State → List ℕ → Content → ℕ → Result (Unit {0}) StoreFault → Option Entry → Type 0
UploadAs s space content hour answer made = EntryWhere (upload_entry s space content hour) answer made

-- ---- putting an object under a reference

-- the blob of the object, where it isn't there
abbrev pub fresh_where : State → Option Blob → Content → Option Stored
fresh_where s None content = Some (stored_content s content)
fresh_where s (Some blob) content = None

abbrev pub fresh_root : State → RefName → Content → Option Stored
fresh_root s name content = fresh_where s (blob_at s name.space (content_hash content.bytes)) content

-- the state in which the object is stored
abbrev pub with_object : State → RefName → Content → ℕ → State
with_object s name content hour = with_put_root s name.space (content_hash content.bytes) (fresh_root s name content) (hour_of s hour)

abbrev pub needs_none : {A : Type 0} → List A → Bool
needs_none [] = true
needs_none (x ∷ xs) = false

-- the object is finalised at once where nothing is missing
abbrev pub put_entry : State → RefName → Content → List IoHash → ℕ → Entry
put_entry s name content needs hour = Put name (content_hash content.bytes) (fresh_root s name content) (needs_none needs) (hour_of s hour)

-- why a put is refused, whatever its object needs
abbrev pub put_fault : State → RefName → Content → ℕ → Option StoreFault
put_fault s name content hour = if has_space s name.space then full s (put_entry s name content [] hour) else Some UnknownSpace

-- the answer is what is missing of the object, once it is stored
abbrev pub PutWhere : Option StoreFault → State → RefName → Content → ℕ → Result (List IoHash) StoreFault → Option Entry → Type 0
PutWhere (Some fault) s name content hour answer made = (answer ≡ Err fault) × (made ≡ None)
PutWhere None s name content hour answer made =
    (needs : List IoHash) × AreNeeds (links_in (with_object s name content hour) name.space) (content_hash content.bytes) needs × (answer ≡ Ok needs) × (made ≡ Some (put_entry s name content needs hour))

abbrev pub PutAs : State → RefName → Content → ℕ → Result (List IoHash) StoreFault → Option Entry → Type 0
PutAs s name content hour answer made = PutWhere (put_fault s name content hour) s name content hour answer made

-- ---- finalising a reference

-- whether the object is finalised already (true) or pending (false)
abbrev pub is_done_at : Option Slot → IoHash → Result Bool StoreFault
is_done_at None hash = Err NotFound
is_done_at (Some slot) hash = if is_hash slot.done hash then Ok true else if is_hash slot.pending hash then Ok false else Err NotPending

abbrev pub is_done : State → RefName → IoHash → Result Bool StoreFault
is_done s name hash = if has_space s name.space then is_done_at (get s.slots name) hash else Err UnknownSpace

abbrev pub finalise_entry : State → RefName → IoHash → List IoHash → ℕ → Option Entry
finalise_entry s name hash needs hour = if needs_none needs then Some (Finalise name hash (hour_of s hour)) else None

-- the answer is what is missing of a pending object, which is finalised where that is nothing
abbrev pub FinaliseWhere : Result Bool StoreFault → State → RefName → IoHash → ℕ → Result (List IoHash) StoreFault → Option Entry → Type 0
FinaliseWhere (Err fault) s name hash hour answer made = (answer ≡ Err fault) × (made ≡ None)
FinaliseWhere (Ok true) s name hash hour answer made = (answer ≡ Ok []) × (made ≡ None)
FinaliseWhere (Ok false) s name hash hour answer made =
    (needs : List IoHash) × AreNeeds (links_in s name.space) hash needs × (answer ≡ Ok needs) × (made ≡ finalise_entry s name hash needs hour)

abbrev pub FinaliseAs : State → RefName → IoHash → ℕ → Result (List IoHash) StoreFault → Option Entry → Type 0
FinaliseAs s name hash hour answer made = FinaliseWhere (is_done s name hash) s name hash hour answer made

-- ---- fetching

-- the finalised object of a reference
abbrev pub done_hash : Option IoHash → Result IoHash StoreFault
done_hash (Some hash) = Ok hash
done_hash None = Err NotFinalised

abbrev pub done_at : Option Slot → Result IoHash StoreFault
done_at (Some slot) = done_hash slot.done
done_at None = Err NotFound

abbrev pub object_of : State → RefName → Result IoHash StoreFault
object_of s name = if has_space s name.space then done_at (get s.slots name) else Err UnknownSpace

-- a reference that was read at an earlier hour is touched
abbrev pub touch_where : Option Slot → RefName → ℕ → Option Entry
touch_where (Some slot) name hour = if nat_lt slot.seen hour then Some (Touch name hour) else None
touch_where None name hour = None

abbrev pub touch_entry : State → RefName → ℕ → Option Entry
touch_entry s name hour = touch_where (get s.slots name) name (hour_of s hour)

-- these may be read of a blob that is there: as many bytes as it has, and those that the devices tell
pub record MayRead (cache : Cache) (space : List ℕ) (hash : IoHash) (bytes : List ℕ) : Type 0 where
  pub blob : Blob
  pub there : blob_at cache.index space hash ≡ Some blob
  pub length_is : length bytes ≡ blob.row.len
  pub told : Tells cache (blob_name space hash) bytes

-- the answer is the hash and the bytes of the finalised object
abbrev pub GetWhere : Result IoHash StoreFault → Cache → RefName → ℕ → Result (IoHash × List ℕ) StoreFault → Option Entry → Type 0
GetWhere (Err fault) cache name hour answer made = (answer ≡ Err fault) × (made ≡ None)
GetWhere (Ok hash) cache name hour answer made = (bytes : List ℕ) × MayRead cache name.space hash bytes × (answer ≡ Ok (hash, bytes)) × (made ≡ touch_entry cache.index name hour)

abbrev pub GetAs : Cache → RefName → ℕ → Result (IoHash × List ℕ) StoreFault → Option Entry → Type 0
GetAs cache name hour answer made = GetWhere (object_of cache.index name) cache name hour answer made

-- ---- what a command leaves

-- the bytes of a blob that an entry adds are those of its command
abbrev pub kept_where : FinMap blob_cmp (List ℕ) → List ℕ → Option Stored → List ℕ → FinMap blob_cmp (List ℕ)
kept_where all space (Some blob) bytes = insert all (blob_name space blob.hash) bytes
kept_where all space None bytes = all

-- the bytes of blobs that are removed go with them
abbrev pub kept : FinMap blob_cmp (List ℕ) → Entry → List ℕ → FinMap blob_cmp (List ℕ)
kept all (Upload space hour blob) bytes = kept_where all space (Some blob) bytes
kept all (Put name root fresh whole hour) bytes = kept_where all name.space fresh bytes
kept all (Swept space hashes) bytes = without_hashes all space hashes
kept all entry bytes = all

-- the state and the bytes after the entry of a command with these bytes, where it makes one
abbrev pub changed : Cache → List ℕ → Option Entry → Cache
changed cache bytes (Some entry) = record { index = after cache.index entry; bytes = option_map (λ all. kept all entry bytes) cache.bytes }
changed cache bytes None = cache
