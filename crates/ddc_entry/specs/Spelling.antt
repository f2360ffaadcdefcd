-- The bytes of an entry. Numbers are little-endian.
use Rattle.std.specs.Prelude.{◌≡◌, ℕ, ◌<◌, ◌≤◌, ◌^◌, Bool, true, false, List, [], ◌∷◌, ◌++◌, length, slice_index, Option, None, Some, IfSome}
use Rattle.std.specs.List.{flat_map, AllByRecursion}
use Rattle.std.specs.Int.{w32, w64, to_le_bytes}
use Rattle.ddc_names.specs.Texts.{name_fault}
use Rattle.ddc_names.specs.declared.hash.IoHash.{IoHash}
use Rattle.ddc_names.specs.declared.reference.RefName.{RefName}
use Rattle.ddc_names.specs.declared.reference.RefSpot.{RefSpot}
use Rattle.cb_fields.specs.declared.links.Link.{Link}
use Rattle.cb_fields.specs.declared.links.LinkKind.{LinkKind}
use Rattle.cb_fields.specs.declared.links.LinkKind.TheVariants.{Object, Binary}
use Rattle.replication_log.specs.declared.event.EventOp.{EventOp}
use Rattle.replication_log.specs.declared.event.EventOp.TheVariants.{Added, Deleted}
use Rattle.ddc_model.specs.declared.rows.Cursor.{Cursor as CursorRow}
use Rattle.ddc_model.specs.declared.entry.Stored.{Stored}
use Rattle.ddc_model.specs.declared.entry.Entry.{Entry}
use Rattle.ddc_model.specs.declared.entry.Entry.TheVariants.{Space, Upload, Repin, Put, Finalise, Delete, Touch, Expire, Swept, Cursor, BaseHour, BaseSlot, BaseEvent}

-- ---- the parts

-- a count or an hour in four bytes
abbrev pub four_bytes : ℕ → List ℕ
four_bytes n = to_le_bytes w32 n

-- a length, a place or a number of events in eight bytes
abbrev pub eight_bytes : ℕ → List ℕ
eight_bytes n = to_le_bytes w64 n

-- the bytes of a hash
abbrev pub twenty_bytes : IoHash → List ℕ
twenty_bytes hash = hash.0

-- a namespace or a bucket: its length in one byte, and its text
abbrev pub name : List ℕ → List ℕ
name text = length text ∷ text

-- a bucket and the bytes of a key
abbrev pub spot : RefSpot → List ℕ
spot place = name place.bucket ++ place.key.0

-- a namespace and a spot
abbrev pub ref_name : RefName → List ℕ
ref_name whole = name whole.space ++ spot whole.spot

-- 1 for yes and 0 for no
abbrev pub flag : Bool → ℕ
flag true = 1
flag false = 0

-- 0 for a link to an object and 1 for one to a blob of any bytes
abbrev pub kind_byte : LinkKind → ℕ
kind_byte Object = 0
kind_byte Binary = 1

abbrev pub link_bytes : Link → List ℕ
link_bytes to = kind_byte to.kind ∷ to.hash.0

-- a hash, the length, the first unit, and the links after their count
abbrev pub stored_bytes : Stored → List ℕ
stored_bytes blob = blob.hash.0 ++ eight_bytes blob.len ++ eight_bytes blob.start ++ four_bytes (length blob.links) ++ flat_map link_bytes blob.links

-- 0 for none, or 1 and what is there
abbrev pub optional : {A : Type 0} → (A → List ℕ) → Option A → List ℕ
optional spelled None = 0 ∷ []
optional spelled (Some a) = 1 ∷ spelled a

-- how many there are in one byte, and each of them
abbrev pub counted : {A : Type 0} → (A → List ℕ) → List A → List ℕ
counted spelled items = length items ∷ flat_map spelled items

-- whether a follower goes through pages, the two numbers that it has come to, and the reference after which it goes on
abbrev pub cursor_bytes : CursorRow → List ℕ
cursor_bytes cursor = flag cursor.walking ∷ eight_bytes cursor.after ++ eight_bytes cursor.top ++ optional spot cursor.from

-- 0 and the object that a reference serves, or 1 where it serves none
abbrev pub op_bytes : EventOp → List ℕ
op_bytes (Added object) = 0 ∷ object.0
op_bytes Deleted = 1 ∷ []

-- ---- the whole

-- a tag and the entry's fields in a fixed order
abbrev pub spelling : Entry → List ℕ
spelling (Space space ttl pin) = 0x01 ∷ name space ++ four_bytes ttl ++ four_bytes pin
spelling (Upload space hour blob) = 0x02 ∷ name space ++ stored_bytes blob ++ four_bytes hour
spelling (Repin space hash hour) = 0x03 ∷ name space ++ hash.0 ++ four_bytes hour
spelling (Put whole_name root fresh whole hour) = 0x04 ∷ ref_name whole_name ++ root.0 ++ optional stored_bytes fresh ++ flag whole ∷ four_bytes hour
spelling (Finalise whole_name hash hour) = 0x05 ∷ ref_name whole_name ++ hash.0 ++ four_bytes hour
spelling (Delete whole_name hour) = 0x06 ∷ ref_name whole_name ++ four_bytes hour
spelling (Touch whole_name hour) = 0x07 ∷ ref_name whole_name ++ four_bytes hour
spelling (Expire space spots hour) = 0x08 ∷ name space ++ counted spot spots ++ four_bytes hour
spelling (Swept space hashes) = 0x09 ∷ name space ++ counted twenty_bytes hashes
spelling (Cursor space cursor) = 0x0a ∷ name space ++ cursor_bytes cursor
spelling (BaseHour hour) = 0x0b ∷ four_bytes hour
spelling (BaseSlot whole_name done pending seen) = 0x0c ∷ ref_name whole_name ++ optional twenty_bytes done ++ optional twenty_bytes pending ++ four_bytes seen
spelling (BaseEvent whole_name number op) = 0x0d ∷ name whole_name.space ++ eight_bytes number ++ spot whole_name.spot ++ op_bytes op

-- ---- what has a spelling: what every value of the code's types is, but for how many an entry names

-- a number of four bytes, and one of eight
abbrev pub IsFour : ℕ → Type 0
IsFour n = n < 2 ^ 32

abbrev pub IsEight : ℕ → Type 0
IsEight n = n < 2 ^ 64

-- the text of a namespace or a bucket
abbrev pub IsName : List ℕ → Type 0
IsName text = name_fault text ≡ None

-- 20 bytes, of a hash or a key
pub record AreTwenty (bytes : List ℕ) : Type 0 where
  pub count : length bytes ≡ 20
  pub small : (i : ℕ) → slice_index bytes i < 256

abbrev pub IsHash : IoHash → Type 0
IsHash hash = AreTwenty hash.0

abbrev pub IsSpot : RefSpot → Type 0
IsSpot place = IsName place.bucket × AreTwenty place.key.0

abbrev pub IsRefName : RefName → Type 0
IsRefName whole = IsName whole.space × IsSpot whole.spot

abbrev pub IsLink : Link → Type 0
IsLink to = IsHash to.hash

-- a hash, numbers of their bytes, and fewer than 2^32 links
abbrev pub IsStored : Stored → Type 0
IsStored blob = IsHash blob.hash × IsEight blob.len × IsEight blob.start × IsFour (length blob.links) × AllByRecursion IsLink blob.links

-- how many references or blobs one entry may name
abbrev pub IsCount : ℕ → Type 0
IsCount n = (1 ≤ n) × (n ≤ 64)

abbrev pub IsCursor : CursorRow → Type 0
IsCursor cursor = IsEight cursor.after × IsEight cursor.top × IfSome cursor.from IsSpot

abbrev pub IsOp : EventOp → Type 0
IsOp (Added object) = IsHash object
IsOp Deleted = Unit {0}

abbrev pub IsEntry : Entry → Type 0
IsEntry (Space space ttl pin) = IsName space × IsFour ttl × IsFour pin
IsEntry (Upload space hour blob) = IsName space × IsStored blob × IsFour hour
IsEntry (Repin space hash hour) = IsName space × IsHash hash × IsFour hour
IsEntry (Put whole_name root fresh whole hour) = IsRefName whole_name × IsHash root × IfSome fresh IsStored × IsFour hour
IsEntry (Finalise whole_name hash hour) = IsRefName whole_name × IsHash hash × IsFour hour
IsEntry (Delete whole_name hour) = IsRefName whole_name × IsFour hour
IsEntry (Touch whole_name hour) = IsRefName whole_name × IsFour hour
IsEntry (Expire space spots hour) = IsName space × IsCount (length spots) × AllByRecursion IsSpot spots × IsFour hour
IsEntry (Swept space hashes) = IsName space × IsCount (length hashes) × AllByRecursion IsHash hashes
IsEntry (Cursor space cursor) = IsName space × IsCursor cursor
IsEntry (BaseHour hour) = IsFour hour
IsEntry (BaseSlot whole_name done pending seen) = IsRefName whole_name × IfSome done IsHash × IfSome pending IsHash × IsFour seen
IsEntry (BaseEvent whole_name number op) = IsRefName whole_name × IsEight number × IsOp op

-- an entry that takes away several references or blobs names as many as it may
abbrev pub RemovalCountFits : Entry → Type 0
RemovalCountFits (Expire space spots hour) = IsCount (length spots)
RemovalCountFits (Swept space hashes) = IsCount (length hashes)
RemovalCountFits entry = Unit {0}
