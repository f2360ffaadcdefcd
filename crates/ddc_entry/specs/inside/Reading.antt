-- What the functions that read a part answer: the part at the front of the bytes, and the bytes after it.
use Rattle.std.specs.Prelude.{◌≡◌, ℕ, zero, suc, Bool, true, false, List, [], ◌∷◌, length, take, drop, Option, Some, None, Result, Ok, Err, nat_lt, nat_le, ◌&&◌, ◌==◌, if◌then◌else◌}
use Rattle.std.specs.Result.{result_ok}
use Rattle.std.specs.Int.{w32, w64, from_le_bytes}
use Rattle.ddc_names.specs.Names.{name_of}
use Rattle.ddc_names.specs.declared.hash.IoHash.{IoHash}
use Rattle.ddc_names.specs.declared.reference.RefKey.{RefKey}
use Rattle.ddc_names.specs.declared.reference.RefName.{RefName}
use Rattle.ddc_names.specs.declared.reference.RefSpot.{RefSpot}
use Rattle.cb_fields.specs.declared.links.Link.{Link}
use Rattle.cb_fields.specs.declared.links.LinkKind.{LinkKind}
use Rattle.cb_fields.specs.declared.links.LinkKind.TheVariants.{Object, Binary}
use Rattle.replication_log.specs.declared.event.EventOp.{EventOp}
use Rattle.replication_log.specs.declared.event.EventOp.TheVariants.{Added, Deleted}
use Rattle.ddc_model.specs.declared.rows.Cursor.{Cursor as CursorRow}
use Rattle.ddc_model.specs.declared.entry.Stored.{Stored}
use Rattle.ddc_model.specs.declared.entry.Entry.{Entry}
use Rattle.ddc_model.specs.declared.entry.Entry.TheVariants.{Space, Upload, Repin, Put, Finalise, Delete, Touch, Expire, Swept, Cursor, BaseHour, BaseSlot, BaseEvent}
use Rattle.ddc_entry.specs.declared.parts.Unread.{Unread}
use Rattle.ddc_entry.specs.declared.parts.Unread.TheVariants.{Refused, NoMemory}

abbrev pub Reader : Type 0 → Type 0
Reader A = List ℕ → Option (A × List ℕ)

-- what a function answered, as contracts see it, is what a reader gives, unless memory ran out
abbrev pub Fails : {Y : Type 0} → Unread → Option Y → Type 0
Fails NoMemory read = Unit {0}
Fails Refused read = read ≡ None

abbrev pub ReadsAs : {X Y : Type 0} → (X → Y) → Result X Unread → Option Y → Type 0
ReadsAs view (Ok x) read = read ≡ Some (view x)
ReadsAs view (Err e) read = Fails e read

-- ---- how readers are put together

infixl 10 ◌>>=◌
abbrev pub ◌>>=◌ : {A B : Type 0} → Option A → (A → Option B) → Option B
(Some x) >>= f = f x
None >>= f = None

-- one part and then another
abbrev pub both : {A B : Type 0} → Reader A → Reader B → Reader (A × B)
both first second bytes = do
  a ← first bytes
  b ← second a.1
  Some ((a.0, b.0), b.1)

-- the value that is made of a part
abbrev pub made : {A B : Type 0} → (A → B) → Reader A → Reader B
made build read bytes = do
  a ← read bytes
  Some (build a.0, a.1)

-- what stands after this byte, or else what another reader gives
abbrev pub tagged : {A : Type 0} → ℕ → Reader A → Reader A → Reader A
tagged tag read other [] = None
tagged tag read other (b ∷ bytes) = if b == tag then read bytes else other (b ∷ bytes)

abbrev pub none_at : {A : Type 0} → Reader A
none_at bytes = None

-- a value without bytes of its own
abbrev pub given : {A : Type 0} → A → Reader A
given a bytes = Some (a, bytes)

-- a part, or none
unfoldable pub optional_at : {A : Type 0} → Reader A → Reader (Option A)
optional_at read = tagged 0 (given None) (tagged 1 (made Some read) none_at)

-- so many parts
unfoldable pub many_at : {A : Type 0} → Reader A → ℕ → Reader (List A)
many_at read zero bytes = Some ([], bytes)
many_at read (suc n) bytes = do
  first ← read bytes
  others ← many_at read n first.1
  Some (first.0 ∷ others.0, others.1)

-- a count, and so many parts
unfoldable pub counted_at : {A : Type 0} → Reader ℕ → Reader A → Reader (List A)
counted_at count read bytes = do
  n ← count bytes
  many_at read n.0 n.1

-- ---- the parts

-- so many bytes
unfoldable pub bytes_at : ℕ → Reader (List ℕ)
bytes_at n bytes = if nat_lt (length bytes) n then None else Some (take n bytes, drop n bytes)

unfoldable pub four_at : Reader ℕ
four_at = made (from_le_bytes w32) (bytes_at 4)

unfoldable pub eight_at : Reader ℕ
eight_at = made (from_le_bytes w64) (bytes_at 8)

-- a byte from 1 to 64
unfoldable pub count_at : Reader ℕ
count_at [] = None
count_at (n ∷ bytes) = if nat_le 1 n && nat_le n 64 then Some (n, bytes) else None

-- a length byte and so many bytes
unfoldable pub sized_at : Reader (List ℕ)
sized_at [] = None
sized_at (n ∷ bytes) = bytes_at n bytes

unfoldable pub name_at : Reader (List ℕ)
name_at bytes = do
  text ← sized_at bytes
  name ← result_ok (name_of text.0)
  Some (name, text.1)

unfoldable pub hash_at : Reader IoHash
hash_at = made (λ (bytes : List ℕ). let hash : IoHash = record { 0 = bytes } in hash) (bytes_at 20)

unfoldable pub key_at : Reader RefKey
key_at = made (λ (bytes : List ℕ). let key : RefKey = record { 0 = bytes } in key) (bytes_at 20)

unfoldable pub spot_at : Reader RefSpot
spot_at = made (λ (p : List ℕ × RefKey). let spot : RefSpot = record { bucket = p.0; key = p.1 } in spot) (both name_at key_at)

unfoldable pub ref_name_at : Reader RefName
ref_name_at = made (λ (p : List ℕ × RefSpot). let name : RefName = record { space = p.0; spot = p.1 } in name) (both name_at spot_at)

unfoldable pub flag_at : Reader Bool
flag_at = tagged 0 (given false) (tagged 1 (given true) none_at)

unfoldable pub kind_at : Reader LinkKind
kind_at = tagged 0 (given Object) (tagged 1 (given Binary) none_at)

unfoldable pub link_at : Reader Link
link_at = made (λ (p : LinkKind × IoHash). let link : Link = record { kind = p.0; hash = p.1 } in link) (both kind_at hash_at)

unfoldable pub stored_at : Reader Stored
stored_at = made (λ (p : IoHash × (ℕ × (ℕ × List Link))). let blob : Stored = record { hash = p.0; len = p.1.0; start = p.1.1.0; links = p.1.1.1 } in blob) (both hash_at (both eight_at (both eight_at (counted_at four_at link_at))))

unfoldable pub op_at : Reader EventOp
op_at = tagged 0 (made Added hash_at) (tagged 1 (given Deleted) none_at)

-- ---- the entries

unfoldable pub space_at : Reader Entry
space_at = made (λ (p : List ℕ × (ℕ × ℕ)). Space p.0 p.1.0 p.1.1) (both name_at (both four_at four_at))

unfoldable pub upload_at : Reader Entry
upload_at = made (λ (p : List ℕ × (Stored × ℕ)). Upload p.0 p.1.1 p.1.0) (both name_at (both stored_at four_at))

unfoldable pub repin_at : Reader Entry
repin_at = made (λ (p : List ℕ × (IoHash × ℕ)). Repin p.0 p.1.0 p.1.1) (both name_at (both hash_at four_at))

unfoldable pub put_at : Reader Entry
put_at = made (λ (p : RefName × (IoHash × (Option Stored × (Bool × ℕ)))). Put p.0 p.1.0 p.1.1.0 p.1.1.1.0 p.1.1.1.1) (both ref_name_at (both hash_at (both (optional_at stored_at) (both flag_at four_at))))

unfoldable pub finalise_at : Reader Entry
finalise_at = made (λ (p : RefName × (IoHash × ℕ)). Finalise p.0 p.1.0 p.1.1) (both ref_name_at (both hash_at four_at))

unfoldable pub delete_at : Reader Entry
delete_at = made (λ (p : RefName × ℕ). Delete p.0 p.1) (both ref_name_at four_at)

unfoldable pub touch_at : Reader Entry
touch_at = made (λ (p : RefName × ℕ). Touch p.0 p.1) (both ref_name_at four_at)

unfoldable pub expire_at : Reader Entry
expire_at = made (λ (p : List ℕ × (List RefSpot × ℕ)). Expire p.0 p.1.0 p.1.1) (both name_at (both (counted_at count_at spot_at) four_at))

unfoldable pub swept_at : Reader Entry
swept_at = made (λ (p : List ℕ × List IoHash). Swept p.0 p.1) (both name_at (counted_at count_at hash_at))

unfoldable pub cursor_at : Reader Entry
cursor_at = made (λ (p : List ℕ × (Bool × (ℕ × (ℕ × Option RefSpot)))). let cursor : CursorRow = record { walking = p.1.0; after = p.1.1.0; top = p.1.1.1.0; from = p.1.1.1.1 } in Cursor p.0 cursor)
    (both name_at (both flag_at (both eight_at (both eight_at (optional_at spot_at)))))

unfoldable pub base_hour_at : Reader Entry
base_hour_at = made BaseHour four_at

unfoldable pub base_slot_at : Reader Entry
base_slot_at = made (λ (p : RefName × (Option IoHash × (Option IoHash × ℕ))). BaseSlot p.0 p.1.0 p.1.1.0 p.1.1.1) (both ref_name_at (both (optional_at hash_at) (both (optional_at hash_at) four_at)))

unfoldable pub base_event_at : Reader Entry
base_event_at = made (λ (p : List ℕ × (ℕ × (RefSpot × EventOp))). let whole : RefName = record { space = p.0; spot = p.1.1.0 } in BaseEvent whole p.1.0 p.1.1.1) (both name_at (both eight_at (both spot_at op_at)))

unfoldable pub entry_at : Reader Entry
entry_at =
    tagged 0x01 space_at
    (tagged 0x02 upload_at
    (tagged 0x03 repin_at
    (tagged 0x04 put_at
    (tagged 0x05 finalise_at
    (tagged 0x06 delete_at
    (tagged 0x07 touch_at
    (tagged 0x08 expire_at
    (tagged 0x09 swept_at
    (tagged 0x0a cursor_at
    (tagged 0x0b base_hour_at
    (tagged 0x0c base_slot_at
    (tagged 0x0d base_event_at none_at))))))))))))
