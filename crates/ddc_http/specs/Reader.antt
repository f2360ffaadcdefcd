-- What one call of the reader does to the bytes ahead of it.
use Rattle.std.specs.Prelude.{◌≡◌, ℕ, ◌+◌, ◌-◌, ◌^◌, ◌≤◌, min, List, [], ◌++◌, length, Option, Some, None, IfSome, Result, Ok, Err, ⊤}
use Rattle.std.specs.Io.KnownBytes.{Consumes, IsAtEnd, prepend_known}
use Rattle.ddc_names.specs.Causes.{Rose}
use Rattle.ddc_protocol.specs.Requests.{Item, put_blob, get_blob, put_ref, get_ref, finalise, mismatch, not_object, IsRequestText, IsUnread, IsCut, HasNoRequestText}
use Rattle.ddc_http.specs.declared.request.Ask.{Ask}
use Rattle.ddc_http.specs.declared.request.Ask.TheVariants.{PutBlob, GetBlob, PutRef, GetRef, Finalise}
use Rattle.ddc_http.specs.declared.request.Request.{Request}
use Rattle.ddc_http.specs.declared.request.HttpFault.{HttpFault}
use Rattle.ddc_http.specs.declared.request.HttpFault.TheVariants.{Unread, Cut, HashMismatch, NotAnObject, ReadFailed, NoMemory}

-- what stands ahead of a reader: the bytes that it holds and that belong to no request yet, and those that its source
-- has left, where it tells them
pub record Ahead : Type 0 where
  pub held : List ℕ
  pub left : Option (List ℕ)

abbrev pub stream_ahead : List ℕ → Option (List ℕ) → Ahead
stream_ahead held left = record { held = held; left = left }

-- all of these bytes
abbrev pub bytes_of_ahead : Ahead → Option (List ℕ)
bytes_of_ahead a = prepend_known a.held a.left

-- the item that a request is
abbrev pub asked_item : Request → Item
asked_item request = asks request.ask
  where
    asks : Ask → Item
    asks (PutBlob space blob) = put_blob space blob
    asks (GetBlob space hash) = get_blob space hash
    asks (PutRef name object) = put_ref name object
    asks (GetRef name) = get_ref name
    asks (Finalise name hash) = finalise name hash

-- a front of the bytes is a whole request
abbrev pub HasRequestText : List ℕ → Type 0
HasRequestText bytes = (item : Item) × (text : List ℕ) × (rest : List ℕ) × IsRequestText text item × (bytes ≡ text ++ rest)

-- the place after a text, which stands still at the end of its type
abbrev pub place_after_text : ℕ → List ℕ → ℕ
place_after_text place text = min (place + length text) (2 ^ 64 - 1)

-- the bytes ahead lost the text of this item, and the place is the one after it
abbrev pub TakesRequest : Option (List ℕ) → Option (List ℕ) → ℕ → ℕ → Item → Type 0
TakesRequest before after from to item = (text : List ℕ) × IsRequestText text item × Consumes before after text × (to ≡ place_after_text from text)

-- what was taken of the bytes ahead is no whole request
abbrev pub LosesPart : Option (List ℕ) → Option (List ℕ) → Type 0
LosesPart before left = (part : List ℕ) × Consumes before left part × HasNoRequestText part

-- what was taken from a source while these bytes were held: all of it but the last piece, after them, holds no whole
-- request
abbrev pub TakesPieces : List ℕ → Option (List ℕ) → Option (List ℕ) → Type 0
TakesPieces held before after = (front : List ℕ) × (last : List ℕ) × Consumes before after (front ++ last) × (length last ≤ 16384) × HasNoRequestText (held ++ front)

-- what a call answered, by what stands ahead before and after it, and the places
abbrev pub ReadsNext : Ahead → Ahead → ℕ → ℕ → Result (Option Request) HttpFault → Type 0
ReadsNext old new from to (Ok (Some request)) = TakesRequest (bytes_of_ahead old) (bytes_of_ahead new) from to (asked_item request)
ReadsNext old new from to (Ok None) = IfSome (bytes_of_ahead old) (λ bytes. bytes ≡ []) × IsAtEnd new.left × (to ≡ from)
ReadsNext old new from to (Err Unread) = IfSome (bytes_of_ahead old) IsUnread × (to ≡ from)
ReadsNext old new from to (Err Cut) = IfSome (bytes_of_ahead old) IsCut × (to ≡ from)
ReadsNext old new from to (Err (HashMismatch named found)) = TakesRequest (bytes_of_ahead old) (bytes_of_ahead new) from to (mismatch named found)
ReadsNext old new from to (Err (NotAnObject at)) = TakesRequest (bytes_of_ahead old) (bytes_of_ahead new) from to (not_object at)
ReadsNext old new from to (Err ReadFailed) = LosesPart (bytes_of_ahead old) new.left × (to ≡ from)
ReadsNext old new from to (Err NoMemory) = ⊤

-- the count of a source's faults, before a fault of a reader and after it: it rose where the source failed
abbrev pub FaultCount : ℕ → ℕ → HttpFault → Type 0
FaultCount before now ReadFailed = (before ≤ now) × Rose before now
FaultCount before now other = before ≡ now

-- the same of what a call answered
abbrev pub FaultsAs : {T : Type 0} → ℕ → ℕ → Result T HttpFault → Type 0
FaultsAs before now (Ok value) = before ≡ now
FaultsAs before now (Err fault) = FaultCount before now fault
