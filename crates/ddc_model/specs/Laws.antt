-- What holds of the definitions.
use Rattle.std.specs.Prelude.{◌≡◌, ℕ, ◌-◌, ◌*◌, ◌^◌, ◌≤◌, true, List, [], length, Option, None, Some, IsSome, Result, Ok, ⊤}
use Rattle.std.specs.FinMap.{FinMap, get}
use Rattle.std.specs.List.{Contains}
use Rattle.ddc_names.specs.declared.hash.IoHash.{IoHash}
use Rattle.ddc_names.specs.declared.reference.RefName.{RefName}
use Rattle.ddc_names.specs.declared.reference.RefSpot.{RefSpot}
use Rattle.cb_fields.specs.declared.links.LinkKind.{LinkKind}
use Rattle.replication_log.specs.Logs.{Log, IsLog}
use Rattle.ddc_model.specs.declared.rows.BlobName.{BlobName}
use Rattle.ddc_model.specs.declared.rows.Limits.{Limits}
use Rattle.ddc_model.specs.declared.entry.Entry.{Entry}
use Rattle.ddc_model.specs.declared.entry.Entry.TheVariants.{Upload, Repin, Put, Expire, Swept, BaseEvent}
use Rattle.ddc_model.specs.declared.fault.StoreFault.{StoreFault}
use Rattle.ddc_model.specs.Limits.{most_bytes}
use Rattle.ddc_model.specs.Keys.{blob_cmp}
use Rattle.ddc_model.specs.State.{State, blob_name, done_of, empty_state, log_of}
use Rattle.ddc_model.specs.Extents.{IsPlaced}
use Rattle.ddc_model.specs.Entries.{after, legal, is_time, name_at}
use Rattle.ddc_model.specs.Content.{Content, IsContent, content_hash}
use Rattle.ddc_model.specs.Closure.{Links, links_in, AreNeeds, IsReached, IsWhole}
use Rattle.ddc_model.specs.Sound.{Cache, empty_cache, AreWhole, IsSound}
use Rattle.ddc_model.specs.Commands.{SpaceAs, UploadAs, PutAs, FinaliseAs, GetAs, changed, kept}
use Rattle.ddc_model.specs.Reads.{DeleteAs, ServesAs}
use Rattle.ddc_model.specs.History.{Leases, Past, IsLawful, no_room_for}

-- bytes have one list of links, and are an object or none
abbrev pub OneContent : Type 0
OneContent = (content other : Content) → content.bytes ≡ other.bytes → IsContent content → IsContent other → content ≡ other

-- each link of an object takes 20 bytes of it
abbrev pub LinksFit : Type 0
LinksFit = (content : Content) → IsContent content → 20 * length content.links ≤ length content.bytes

-- what is missing of a closure is one list
abbrev pub OneListOfNeeds : Type 0
OneListOfNeeds = (links : Links) (root : IoHash) (needs others : List IoHash) → AreNeeds links root needs → AreNeeds links root others → needs ≡ others

-- a whole closure stays whole where a blob is added that wasn't there
abbrev pub WholeStaysWhole : Type 0
WholeStaysWhole = (links others : Links) (root new : IoHash) → links new ≡ None → ((hash : IoHash) → (hash ≡ new → ⊥) → others hash ≡ links hash) → IsWhole links root → IsWhole others root

-- ---- a sound cache stays sound

-- an empty cache is sound
abbrev pub EmptyIsSound : Type 0
EmptyIsSound = (limits : Limits) → IsSound (empty_cache limits)

-- making a namespace keeps a cache sound
abbrev pub SpaceStaysSound : Type 0
SpaceStaysSound = (cache : Cache) (space : List ℕ) (ttl pin : ℕ) (answer : Result (Unit {0}) StoreFault) (made : Option Entry)
    → IsSound cache → SpaceAs cache.index space ttl pin answer made → IsSound (changed cache [] made)

-- so does storing a blob
abbrev pub UploadStaysSound : Type 0
UploadStaysSound = (cache : Cache) (space : List ℕ) (content : Content) (hour : ℕ) (answer : Result (Unit {0}) StoreFault) (made : Option Entry)
    → IsSound cache → IsContent content → UploadAs cache.index space content hour answer made → IsSound (changed cache content.bytes made)

-- so does putting an object under a reference
abbrev pub PutStaysSound : Type 0
PutStaysSound = (cache : Cache) (name : RefName) (content : Content) (hour : ℕ) (answer : Result (List IoHash) StoreFault) (made : Option Entry)
    → IsSound cache → IsContent content → PutAs cache.index name content hour answer made → IsSound (changed cache content.bytes made)

-- so does finalising a reference
abbrev pub FinaliseStaysSound : Type 0
FinaliseStaysSound = (cache : Cache) (name : RefName) (hash : IoHash) (hour : ℕ) (answer : Result (List IoHash) StoreFault) (made : Option Entry)
    → IsSound cache → FinaliseAs cache.index name hash hour answer made → IsSound (changed cache [] made)

-- so does reading a reference
abbrev pub GetStaysSound : Type 0
GetStaysSound = (cache : Cache) (name : RefName) (hour : ℕ) (answer : Result (IoHash × List ℕ) StoreFault) (made : Option Entry)
    → IsSound cache → GetAs cache name hour answer made → IsSound (changed cache [] made)

-- so does taking a reference away
abbrev pub DeleteStaysSound : Type 0
DeleteStaysSound = (cache : Cache) (name : RefName) (hour : ℕ) (answer : Result (Unit {0}) StoreFault) (made : Option Entry)
    → IsSound cache → DeleteAs cache.index name hour answer made → IsSound (changed cache [] made)

-- a sound cache serves each hash of a finalised reference's closure, with bytes of that hash
abbrev pub SoundServes : Type 0
SoundServes = (cache : Cache) (name : RefName) (root hash : IoHash) (kind : LinkKind) (answer : Result (List ℕ) StoreFault)
    → IsSound cache → IsSome (get cache.index.spaces name.space) → done_of (get cache.index.slots name) ≡ Some root → IsReached (links_in cache.index name.space) root (record { kind = kind; hash = hash })
    → ServesAs cache name.space hash answer → (bytes : List ℕ) × (answer ≡ Ok bytes) × (content_hash bytes ≡ hash)

-- ---- where the blobs stand

-- those of an empty state stand nowhere
abbrev pub EmptyIsPlaced : Type 0
EmptyIsPlaced = (limits : Limits) → IsPlaced (empty_state limits)

-- a legal entry keeps the blobs apart
abbrev pub LegalStaysPlaced : Type 0
LegalStaysPlaced = (s : State) (entry : Entry) → IsPlaced s → legal s entry ≡ true → IsPlaced (after s entry)

-- ---- what stays whole and lawful, whatever the bytes are

-- the entry that is made, where there is one, is lawful, and leaves the finalised references whole
abbrev pub KeepsWhole : State → Option Entry → Type 0
KeepsWhole s (Some entry) = ((leases : Leases) → IsLawful leases s entry) × AreWhole (after s entry)
KeepsWhole s None = ⊤

abbrev pub SpaceKeepsWhole : Type 0
SpaceKeepsWhole = (s : State) (space : List ℕ) (ttl pin : ℕ) (answer : Result (Unit {0}) StoreFault) (made : Option Entry)
    → AreWhole s → SpaceAs s space ttl pin answer made → KeepsWhole s made

abbrev pub UploadKeepsWhole : Type 0
UploadKeepsWhole = (s : State) (space : List ℕ) (content : Content) (hour : ℕ) (answer : Result (Unit {0}) StoreFault) (made : Option Entry)
    → AreWhole s → UploadAs s space content hour answer made → KeepsWhole s made

abbrev pub PutKeepsWhole : Type 0
PutKeepsWhole = (s : State) (name : RefName) (content : Content) (hour : ℕ) (answer : Result (List IoHash) StoreFault) (made : Option Entry)
    → AreWhole s → PutAs s name content hour answer made → KeepsWhole s made

abbrev pub FinaliseKeepsWhole : Type 0
FinaliseKeepsWhole = (s : State) (name : RefName) (hash : IoHash) (hour : ℕ) (answer : Result (List IoHash) StoreFault) (made : Option Entry)
    → AreWhole s → FinaliseAs s name hash hour answer made → KeepsWhole s made

abbrev pub GetKeepsWhole : Type 0
GetKeepsWhole = (cache : Cache) (name : RefName) (hour : ℕ) (answer : Result (IoHash × List ℕ) StoreFault) (made : Option Entry)
    → AreWhole cache.index → GetAs cache name hour answer made → KeepsWhole cache.index made

abbrev pub DeleteKeepsWhole : Type 0
DeleteKeepsWhole = (s : State) (name : RefName) (hour : ℕ) (answer : Result (Unit {0}) StoreFault) (made : Option Entry)
    → AreWhole s → DeleteAs s name hour answer made → KeepsWhole s made

-- ---- entries that remove

-- references that go leave the others whole
abbrev pub ExpireStaysWhole : Type 0
ExpireStaysWhole = (s : State) (space : List ℕ) (spots : List RefSpot) (hour : ℕ) → AreWhole s → AreWhole (after s (Expire space spots hour))

-- so do blobs that no reference reaches
abbrev pub SweptStaysWhole : Type 0
SweptStaysWhole = (leases : Leases) (s : State) (space : List ℕ) (hashes : List IoHash)
    → AreWhole s → IsLawful leases s (Swept space hashes) → AreWhole (after s (Swept space hashes))

-- both keep a cache sound
abbrev pub ExpireStaysSound : Type 0
ExpireStaysSound = (cache : Cache) (space : List ℕ) (spots : List RefSpot) (hour : ℕ) → IsSound cache → IsSound (changed cache [] (Some (Expire space spots hour)))

abbrev pub SweptStaysSound : Type 0
SweptStaysSound = (leases : Leases) (cache : Cache) (space : List ℕ) (hashes : List IoHash)
    → IsSound cache → IsLawful leases cache.index (Swept space hashes) → IsSound (changed cache [] (Some (Swept space hashes)))

-- the references that are named go
abbrev pub ExpireRemoves : Type 0
ExpireRemoves = (s : State) (space : List ℕ) (spots : List RefSpot) (hour : ℕ) (spot : RefSpot)
    → Contains spots spot → get (after s (Expire space spots hour)).slots (name_at space spot) ≡ None

-- and the others stay as they were
abbrev pub ExpireKeepsOthers : Type 0
ExpireKeepsOthers = (s : State) (space : List ℕ) (spots : List RefSpot) (hour : ℕ) (name : RefName)
    → (name.space ≡ space → ¬ Contains spots name.spot) → get (after s (Expire space spots hour)).slots name ≡ get s.slots name

-- the blobs that are named go, with their bytes
abbrev pub SweptRemoves : Type 0
SweptRemoves = (s : State) (all : FinMap blob_cmp (List ℕ)) (space : List ℕ) (hashes : List IoHash) (hash : IoHash) → Contains hashes hash
    → (get (after s (Swept space hashes)).blobs (blob_name space hash) ≡ None) × (get (kept all (Swept space hashes) []) (blob_name space hash) ≡ None)

-- and the others stay, with their rows and their links, and with their bytes
abbrev pub SweptKeepsOthers : Type 0
SweptKeepsOthers = (s : State) (all : FinMap blob_cmp (List ℕ)) (space : List ℕ) (hashes : List IoHash) (name : BlobName)
    → (name.space ≡ space → ¬ Contains hashes name.hash)
    → (get (after s (Swept space hashes)).blobs name ≡ get s.blobs name) × (get (kept all (Swept space hashes) []) name ≡ get all name)

-- an entry that adds, pins and removes no blob
abbrev pub LeavesBlobs : Entry → Type 0
LeavesBlobs (Upload space hour blob) = ⊥
LeavesBlobs (Repin space hash hour) = ⊥
LeavesBlobs (Put name root fresh whole hour) = ⊥
LeavesBlobs (Swept space hashes) = ⊥
LeavesBlobs entry = ⊤

-- it leaves all blobs as they were, with their bytes
abbrev pub LeavesBlobsAlone : Type 0
LeavesBlobsAlone = (s : State) (all : FinMap blob_cmp (List ℕ)) (entry : Entry) (bytes : List ℕ) → LeavesBlobs entry → ((after s entry).blobs ≡ s.blobs) × (kept all entry bytes ≡ all)

-- ---- the logs of events

-- a log that keeps so many events: they are numbered one after another, and its last number is below 2^64
pub record IsLogOf (kept : ℕ) (log : Log) : Type 0 where
  pub keeps : log.kept ≡ kept
  pub is_log : IsLog log
  pub fits : log.last ≤ 2 ^ 64 - 1

-- that of each namespace is so
abbrev pub AreLogs : State → Type 0
AreLogs s = (space : List ℕ) → IsLogOf s.limits.kept (log_of s space)

-- those of an empty state are
abbrev pub EmptyHasLogs : Type 0
EmptyHasLogs = (limits : Limits) → 1 ≤ limits.kept → AreLogs (empty_state limits)

-- the number that an entry gives an event is below 2^64, as that of every entry is which the code can hold
abbrev pub EventNumberFits : Entry → Type 0
EventNumberFits (BaseEvent name number op) = number ≤ 2 ^ 64 - 1
EventNumberFits entry = ⊤

-- a legal entry keeps them so
abbrev pub LegalKeepsLogs : Type 0
LegalKeepsLogs = (s : State) (entry : Entry) → EventNumberFits entry → AreLogs s → legal s entry ≡ true → AreLogs (after s entry)

-- ---- the entries that commands make are legal

-- the entry that is made, where there is one, is legal
abbrev pub IsLegal : State → Option Entry → Type 0
IsLegal s (Some entry) = legal s entry ≡ true
IsLegal s None = ⊤

-- the entry of a namespace is legal, where its times are
abbrev pub SpaceIsLegal : Type 0
SpaceIsLegal = (s : State) (space : List ℕ) (ttl pin : ℕ) (answer : Result (Unit {0}) StoreFault) (made : Option Entry)
    → is_time ttl ≡ true → is_time pin ≡ true → SpaceAs s space ttl pin answer made → IsLegal s made

-- so is that of a blob of so many bytes at most
abbrev pub UploadIsLegal : Type 0
UploadIsLegal = (s : State) (space : List ℕ) (content : Content) (hour : ℕ) (answer : Result (Unit {0}) StoreFault) (made : Option Entry)
    → IsContent content → length content.bytes ≤ most_bytes → UploadAs s space content hour answer made → IsLegal s made

-- and that of an object put under a reference, where the history has room
abbrev pub PutIsLegal : Type 0
PutIsLegal = (s : State) (past : Past) (name : RefName) (content : Content) (hour : ℕ) (answer : Result (List IoHash) StoreFault) (made : Option Entry)
    → IsContent content → length content.bytes ≤ most_bytes → PutAs s name content hour answer made → no_room_for s past made ≡ None → IsLegal s made

-- and that of a reference that is finalised
abbrev pub FinaliseIsLegal : Type 0
FinaliseIsLegal = (s : State) (past : Past) (name : RefName) (hash : IoHash) (hour : ℕ) (answer : Result (List IoHash) StoreFault) (made : Option Entry)
    → FinaliseAs s name hash hour answer made → no_room_for s past made ≡ None → IsLegal s made

-- and that of a reference that is read
abbrev pub GetIsLegal : Type 0
GetIsLegal = (cache : Cache) (name : RefName) (hour : ℕ) (answer : Result (IoHash × List ℕ) StoreFault) (made : Option Entry)
    → GetAs cache name hour answer made → IsLegal cache.index made

-- and that of a reference that is taken away
abbrev pub DeleteIsLegal : Type 0
DeleteIsLegal = (s : State) (past : Past) (name : RefName) (hour : ℕ) (answer : Result (Unit {0}) StoreFault) (made : Option Entry)
    → DeleteAs s name hour answer made → no_room_for s past made ≡ None → IsLegal s made
