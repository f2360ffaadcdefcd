-- How a list of bytes is cut into requests (RFC 9112, section 2), up to the end of a stream.
use Rattle.std.specs.Prelude.{◌≡◌, ◌⊎◌, ℕ, ◌<◌, ◌≤◌, ◌+◌, true, false, List, [], ◌∷◌, ◌++◌, length, Some, None}
use Rattle.httparse.specs.Grammar.{RequestHead, IsRequestHead, print_request}
use Rattle.ddc_names.specs.declared.hash.IoHash.{IoHash}
use Rattle.ddc_names.specs.declared.reference.RefName.{RefName}
use Rattle.tree_hash.specs.TreeHash.{io}
use Rattle.cb_fields.specs.Fault.{FaultAt}
use Rattle.ddc_model.specs.Content.{Content, IsContent, content_hash}
use Rattle.ddc_protocol.specs.declared.request_form.RequestForm.{RequestForm}
use Rattle.ddc_protocol.specs.declared.request_form.RequestForm.TheVariants.{PutBlob, GetBlob, PutRef, GetRef, Finalise}
use Rattle.ddc_protocol.specs.Fields.{same_text}
use Rattle.ddc_protocol.specs.HeadForms.{form_of_head}

-- a head of at most 64 fields and 16,384 bytes
pub record IsHead (head : RequestHead) : Type 0 where
  pub valid : IsRequestHead head
  pub few : length head.fields ≤ 64
  pub short : length (print_request head) ≤ 16384

-- no front of the bytes is a head
abbrev pub HasNoHead : List ℕ → Type 0
HasNoHead bytes = (head : RequestHead) (rest : List ℕ) → IsHead head → bytes ≡ print_request head ++ rest → ⊥

-- nor can one become of them, whatever follows
abbrev pub NeverHasHead : List ℕ → Type 0
NeverHasHead bytes = (more : List ℕ) → HasNoHead (bytes ++ more)

-- how many bytes follow the head
abbrev pub body_length : RequestForm → ℕ
body_length (PutBlob space hash size) = size
body_length (GetBlob space hash) = 0
body_length (PutRef name size) = size
body_length (GetRef name) = 0
body_length (Finalise name hash) = 0

-- what is answered before the next request is read: a blob to store or to fetch, an object to put under a reference, to
-- fetch or to finalise there, a body that has another hash than the one that was named, or one that is no object and
-- breaks its rules at this place
pub data Item : Type 0 where
  put_blob : (space : List ℕ) (content : Content) → Item
  get_blob : (space : List ℕ) (hash : IoHash) → Item
  put_ref : (name : RefName) (content : Content) → Item
  get_ref : (name : RefName) → Item
  finalise : (name : RefName) (hash : IoHash) → Item
  mismatch : (expected found : IoHash) → Item
  not_object : (at : ℕ) → Item

-- what a head of this form asks with this body. A blob is stored only under its own hash, and only an object is put
-- under a reference
pub data Asks (body : List ℕ) : RequestForm → Item → Type 0 where
  stores : {space : List ℕ} {hash : IoHash} {size : ℕ} (content : Content) → content.bytes ≡ body → IsContent content → same_text (io body) hash.0 ≡ true → Asks body (PutBlob space hash size) (put_blob space content)
  mismatches : {space : List ℕ} {hash : IoHash} {size : ℕ} → same_text (io body) hash.0 ≡ false → Asks body (PutBlob space hash size) (mismatch hash (content_hash body))
  fetches : {space : List ℕ} {hash : IoHash} → Asks body (GetBlob space hash) (get_blob space hash)
  puts : {name : RefName} {size : ℕ} (content : Content) → content.bytes ≡ body → IsContent content → content.is_object ≡ true → Asks body (PutRef name size) (put_ref name content)
  breaks : {name : RefName} {size at : ℕ} → FaultAt body at → Asks body (PutRef name size) (not_object at)
  reads : {name : RefName} → Asks body (GetRef name) (get_ref name)
  finalises : {name : RefName} {hash : IoHash} → Asks body (Finalise name hash) (finalise name hash)

-- the text is one whole request, and the item is what it asks
pub record IsRequestText (text : List ℕ) (item : Item) : Type 0 where
  pub head : RequestHead
  pub form : RequestForm
  pub body : List ℕ
  pub is_head : IsHead head
  pub asks : form_of_head head ≡ Some form
  pub whole : length body ≡ body_length form
  pub spelled : text ≡ print_request head ++ body
  pub item_is : Asks body form item

-- the bytes begin with a head that is of no form
pub record HasNoForm (bytes : List ℕ) : Type 0 where
  pub head : RequestHead
  pub rest : List ℕ
  pub is_head : IsHead head
  pub spelled : bytes ≡ print_request head ++ rest
  pub asks : form_of_head head ≡ None

-- the bytes end inside a body
pub record LacksBody (bytes : List ℕ) : Type 0 where
  pub head : RequestHead
  pub form : RequestForm
  pub rest : List ℕ
  pub is_head : IsHead head
  pub asks : form_of_head head ≡ Some form
  pub spelled : bytes ≡ print_request head ++ rest
  pub lacks : length rest < body_length form

-- bytes at which the server gives up: a head of no form, or bytes of which no head can become
abbrev pub IsUnread : List ℕ → Type 0
IsUnread bytes = NeverHasHead bytes ⊎ HasNoForm bytes

-- bytes that end inside a request
abbrev pub IsCut : List ℕ → Type 0
IsCut bytes = ((0 < length bytes) × HasNoHead bytes) ⊎ LacksBody bytes

-- no front is a whole request
abbrev pub HasNoRequestText : List ℕ → Type 0
HasNoRequestText bytes = (item : Item) (text rest : List ℕ) → IsRequestText text item → bytes ≡ text ++ rest → ⊥

-- the bytes are the texts of these items, and then the rest
abbrev pub Begins : List ℕ → List Item → List ℕ → Type 0
Begins bytes [] rest = bytes ≡ rest
Begins bytes (item ∷ items) rest = (text : List ℕ) × (tail : List ℕ) × (bytes ≡ text ++ tail) × IsRequestText text item × Begins tail items rest

-- how a stream ends: between two requests, inside one, at one that isn't read, or with the last that is answered
pub data End : Type 0 where
  closed cut unread spent : End

-- the most items of one stream
abbrev pub most_items : ℕ
most_items = 10000

-- the rest after so many items is this end
abbrev pub EndsAs : ℕ → List ℕ → End → Type 0
EndsAs count rest closed = (count < most_items) × (rest ≡ [])
EndsAs count rest cut = (count < most_items) × IsCut rest
EndsAs count rest unread = (count < most_items) × IsUnread rest
EndsAs count rest spent = count ≡ most_items

-- a stream of these bytes has these items, and this end after `at` bytes
pub record Cuts (bytes : List ℕ) (items : List Item) (at : ℕ) (end : End) : Type 0 where
  pub rest : List ℕ
  pub begins : Begins bytes items rest
  pub place : at + length rest ≡ length bytes
  pub ends : EndsAs (length items) rest end
