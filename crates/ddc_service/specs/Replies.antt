-- What each request is answered, and what it leaves.
use Rattle.std.specs.Prelude.{◌≡◌, ◌⊎◌, ℕ, ◌+◌, Bool, true, false, List, [], ◌∷◌, ◌++◌, Option, Some, None, Result, Ok, Err, IfSome, ◌==◌}
use Rattle.ddc_names.specs.declared.hash.IoHash.{IoHash}
use Rattle.ddc_model.specs.declared.entry.Entry.{Entry}
use Rattle.ddc_model.specs.declared.fault.StoreFault.{StoreFault}
use Rattle.ddc_model.specs.declared.fault.StoreFault.TheVariants.{DiskFailed, Damaged}
use Rattle.ddc_model.specs.Content.{content_hash}
use Rattle.ddc_model.specs.Sound.{Cache}
use Rattle.ddc_model.specs.Commands.{UploadAs, PutAs, FinaliseAs, changed}
use Rattle.ddc_model.specs.History.{Past, none_yet, one_entry_more, WithRoom}
use Rattle.ddc_model.specs.Reads.{ServesAs, HeldAs}
use Rattle.ddc_book.specs.Calls.{Only}
use Rattle.ddc_protocol.specs.Replies.{json_reply, blob_reply, object_reply, identifier_body, needs_body, fault_reply, mismatch_body, not_object_body, unread_reply}
use Rattle.ddc_protocol.specs.Requests.{Item, put_blob, get_blob, put_ref, get_ref, finalise, mismatch, not_object, End, unread, most_items}

-- a store that is open: its state with the bytes of its blobs, and how much was made since the opening
pub record OpenStore : Type 0 where
  pub cache : Cache
  pub past : Past

abbrev pub just_opened : Cache → OpenStore
just_opened cache = record { cache = cache; past = none_yet }

abbrev pub past_with : Past → Option Entry → Past
past_with past (Some entry) = one_entry_more past entry
past_with past None = past

-- the store after the entry of a command with these bytes, where it makes one
abbrev pub store_after : OpenStore → List ℕ → Option Entry → OpenStore
store_after store bytes made = record { cache = changed store.cache bytes made; past = past_with store.past made }

-- ---- the texts

-- the reply to an upload
abbrev pub upload_reply : IoHash → Bool → Result (Unit {0}) StoreFault → List ℕ
upload_reply hash close (Ok u) = json_reply 200 (identifier_body hash) close
upload_reply hash close (Err fault) = fault_reply fault close

-- to a put, and to the finalising of a reference
abbrev pub needs_reply : Bool → Result (List IoHash) StoreFault → List ℕ
needs_reply close (Ok needs) = json_reply 200 (needs_body needs) close
needs_reply close (Err fault) = fault_reply fault close

-- to the fetching of a reference
abbrev pub get_reply : Bool → Result (IoHash × List ℕ) StoreFault → List ℕ
get_reply close (Ok found) = object_reply found.0 found.1 close
get_reply close (Err fault) = fault_reply fault close

-- and of a blob
abbrev pub fetch_reply : IoHash → Bool → Result (List ℕ) StoreFault → List ℕ
fetch_reply hash close (Ok bytes) = blob_reply hash bytes close
fetch_reply hash close (Err fault) = fault_reply fault close

-- where the disks failed
abbrev pub failed_reply : List ℕ
failed_reply = fault_reply DiskFailed true

-- ---- what each item is answered

abbrev pub is_damaged : StoreFault → Bool
is_damaged (Damaged name found) = true
is_damaged other = false

-- the answer says that a blob's bytes have another hash than its name
abbrev pub says_damaged : {A : Type 0} → Result A StoreFault → Bool
says_damaged (Ok a) = false
says_damaged (Err fault) = is_damaged fault

-- an item as a command on a store: what it may answer with the entry that it makes, the bytes of the blob that it brings, and
-- the text of the reply to an answer
pub record ItemCommand : Type 1 where
  pub Value : Type 0
  pub bytes : List ℕ
  pub Command : Result Value StoreFault → Option Entry → Type 0
  pub reply : Bool → Result Value StoreFault → List ℕ

abbrev pub as_command : {A : Type 0} → List ℕ → (Result A StoreFault → Option Entry → Type 0) → (Bool → Result A StoreFault → List ℕ) → ItemCommand
as_command {A} bytes Command reply = record { Value = A; bytes = bytes; Command = Command; reply = reply }

-- nothing was asked of the store
abbrev pub IsFine : Result (Unit {0}) StoreFault → Type 0
IsFine answer = answer ≡ Ok tt

-- at this hour
abbrev pub item_command : ℕ → OpenStore → Item → ItemCommand
item_command hour store (put_blob space content) =
    as_command content.bytes (WithRoom store.cache.index store.past (UploadAs store.cache.index space content hour)) (upload_reply (content_hash content.bytes))
item_command hour store (get_blob space hash) = as_command [] (Only (ServesAs store.cache space hash)) (fetch_reply hash)
item_command hour store (put_ref name content) = as_command content.bytes (WithRoom store.cache.index store.past (PutAs store.cache.index name content hour)) needs_reply
item_command hour store (get_ref name) = as_command [] (HeldAs store.cache store.past name hour) get_reply
item_command hour store (finalise name hash) = as_command [] (WithRoom store.cache.index store.past (FinaliseAs store.cache.index name hash hour)) needs_reply
item_command hour store (mismatch expected found) = as_command [] (Only IsFine) (λ close answer. json_reply 400 (mismatch_body expected found) close)
item_command hour store (not_object at) = as_command [] (Only IsFine) (λ close answer. json_reply 400 (not_object_body at) close)

-- a command answers, and the text and the store after it follow; whether the answer says that a blob is damaged
abbrev pub IsReplyBy : ItemCommand → Bool → Bool → OpenStore → List ℕ → OpenStore → Type 0
IsReplyBy c damaged close store text next =
    (answer : Result c.Value StoreFault) × (made : Option Entry) × c.Command answer made × (text ≡ c.reply close answer) × (next ≡ store_after store c.bytes made) × (damaged ≡ says_damaged answer)

-- the text of the reply to an item at this hour, and the store after it
abbrev pub IsReply : Bool → Bool → ℕ → OpenStore → Item → List ℕ → OpenStore → Type 0
IsReply damaged close hour store item text next = IsReplyBy (item_command hour store item) damaged close store text next

-- a command would make an entry, and the store after it follows
abbrev pub IsChangeBy : ItemCommand → OpenStore → OpenStore → Type 0
IsChangeBy c store next = (value : c.Value) × (entry : Entry) × c.Command (Ok value) (Some entry) × (next ≡ store_after store c.bytes (Some entry))

-- the change that an item would make at this hour, and the store after it
abbrev pub IsChange : ℕ → OpenStore → Item → OpenStore → Type 0
IsChange hour store item next = IsChangeBy (item_command hour store item) store next

-- the hour is the clock's, where the clock tells it
abbrev pub IsHour : Option ℕ → ℕ → Type 0
IsHour told hour = IfSome told (λ known. hour ≡ known)

abbrev pub IsReplyAt : Option ℕ → Bool → Bool → OpenStore → Item → List ℕ → OpenStore → Type 0
IsReplyAt told damaged close store item text next = (hour : ℕ) × IsHour told hour × IsReply damaged close hour store item text next

abbrev pub IsChangeAt : Option ℕ → OpenStore → Item → OpenStore → Type 0
IsChangeAt told store item next = (hour : ℕ) × IsHour told hour × IsChange hour store item next

-- ---- an item at which the disks failed

-- the bytes of a blob are read for it
abbrev pub ReadsBytes : Item → Type 0
ReadsBytes (get_blob space hash) = Unit {0}
ReadsBytes (get_ref name) = Unit {0}
ReadsBytes other = ⊥

-- a store that has the index and the past of this one is seen in its place; which bytes its blobs have is open
pub record SeenAs (store seen : OpenStore) : Type 0 where
  pub index : seen.cache.index ≡ store.cache.index
  pub past : seen.past ≡ store.past

-- the disks failed as the item's change was written, or as bytes were read for it, which changes nothing; `final` is the store
-- where they don't fail, and `seen` the one that is seen
pub record FailsAt (told : Option ℕ) (store : OpenStore) (item : Item) (seen : OpenStore) : Type 0 where
  pub final : OpenStore
  pub either : IsChangeAt told store item final ⊎ (ReadsBytes item × (final ≡ store))
  pub seen_as : SeenAs final seen

-- ---- streams

-- the server closes with the last item of a stream that it answers
abbrev pub closes : ℕ → Bool
closes count = count + 1 == most_items

-- the texts of the replies to items, of which the first has this number, counted from 0, and the store after them; none says
-- that a blob is damaged
abbrev pub Runs : Option ℕ → ℕ → OpenStore → List Item → List ℕ → OpenStore → Type 0
Runs told count store [] text next = (text ≡ []) × (next ≡ store)
Runs told count store (item ∷ items) text next =
    (first : List ℕ) × (others : List ℕ) × (between : OpenStore) × IsReplyAt told false (closes count) store item first between × Runs told (count + 1) between items others next × (text ≡ first ++ others)

-- what is written at the end of a stream
abbrev pub last_text : End → List ℕ
last_text unread = unread_reply
last_text other = []
