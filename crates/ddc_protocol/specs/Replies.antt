-- The texts of replies (RFC 9112, section 4, and RFC 8259).
use Rattle.std.specs.Prelude.{ℕ, Bool, true, false, List, [], ◌∷◌, ◌++◌, length, Option, Some, None, unwrap_or, codes, decimal}
use Rattle.http.specs.StatusCode.{reason_phrase}
use Rattle.ddc_names.specs.declared.hash.IoHash.{IoHash}
use Rattle.ddc_names.specs.Names.{hash_text}
use Rattle.ddc_model.specs.declared.fault.StoreFault.{StoreFault}
use Rattle.ddc_model.specs.declared.fault.StoreFault.TheVariants.{Broken, UnknownSpace, NotFound, NotFinalised, NotPending, Full, HistoryFull, NoMemory, DiskFailed, Damaged}
use Rattle.ddc_model.specs.declared.fault.What.{What}
use Rattle.ddc_model.specs.declared.fault.What.TheVariants.{Spaces, Blobs, Refs, Links, Units}

-- `HTTP/1.1`, the status with its phrase of RFC 9110, and the type of the body
unfoldable pub opening_text : ℕ → List ℕ → List ℕ → List ℕ
opening_text status phrase kind = codes "HTTP/1.1 " ++ decimal status ++ codes " " ++ phrase ++ codes "\r\nContent-Type: " ++ kind ++ codes "\r\n"

-- the hash of the body, where the reply names one
unfoldable pub hash_line : Option IoHash → List ℕ
hash_line None = []
hash_line (Some hash) = codes "X-Jupiter-IoHash: " ++ hash_text hash ++ codes "\r\n"

unfoldable pub close_line : Bool → List ℕ
close_line true = codes "Connection: close\r\n"
close_line false = []

-- the length of the body in bytes, whether the server closes, and the empty line
unfoldable pub ending_text : ℕ → List ℕ → List ℕ
ending_text size close = codes "Content-Length: " ++ decimal size ++ codes "\r\n" ++ close ++ codes "\r\n"

-- the head of a reply
unfoldable pub head_text : ℕ → List ℕ → Option IoHash → ℕ → Bool → List ℕ
head_text status kind hash size close =
    opening_text status (unwrap_or (reason_phrase status) []) kind ++ hash_line hash ++ ending_text size (close_line close)

abbrev pub json : List ℕ
json = codes "application/json"

abbrev pub octets : List ℕ
octets = codes "application/octet-stream"

-- Compact Binary, Unreal Engine's own
abbrev pub compact : List ℕ
compact = codes "application/x-ue-cb"

-- a reply with a body in JSON
abbrev pub json_reply : ℕ → List ℕ → Bool → List ℕ
json_reply status body close = head_text status json None (length body) close ++ body

-- a reply with the bytes of a blob
abbrev pub blob_reply : IoHash → List ℕ → Bool → List ℕ
blob_reply hash bytes close = head_text 200 octets (Some hash) (length bytes) close ++ bytes

-- a reply with an object
abbrev pub object_reply : IoHash → List ℕ → Bool → List ℕ
object_reply hash bytes close = head_text 200 compact (Some hash) (length bytes) close ++ bytes

-- hashes between quotes, with commas between
abbrev pub hash_list : List IoHash → List ℕ
hash_list [] = []
hash_list (hash ∷ []) = codes "\"" ++ hash_text hash ++ codes "\""
hash_list (hash ∷ other ∷ hashes) = (codes "\"" ++ hash_text hash ++ codes "\",") ++ hash_list (other ∷ hashes)

-- the body that lists what is needed
abbrev pub needs_body : List IoHash → List ℕ
needs_body hashes = codes "{\"needs\":[" ++ hash_list hashes ++ codes "]}"

-- the body that names what was stored
abbrev pub identifier_body : IoHash → List ℕ
identifier_body hash = codes "{\"identifier\":\"" ++ hash_text hash ++ codes "\"}"

-- the body of a refusal
abbrev pub error_body : List ℕ → List ℕ
error_body code = codes "{\"error\":\"" ++ code ++ codes "\"}"

-- the body for a blob whose bytes have another hash than the one expected
abbrev pub mismatch_body : IoHash → IoHash → List ℕ
mismatch_body expected found =
    codes "{\"error\":\"hash_mismatch\",\"found\":\"" ++ hash_text found ++ codes "\",\"named\":\"" ++ hash_text expected ++ codes "\"}"

-- the body for bytes that are no object and break its rules at this place
abbrev pub not_object_body : ℕ → List ℕ
not_object_body at = codes "{\"at\":" ++ decimal at ++ codes ",\"error\":\"not_an_object\"}"

-- the body for a change that would pass this limit of what is counted
abbrev pub full_body : ℕ → List ℕ → List ℕ
full_body limit what = codes "{\"error\":\"full\",\"limit\":" ++ decimal limit ++ codes ",\"what\":\"" ++ what ++ codes "\"}"

abbrev pub what_text : What → List ℕ
what_text Spaces = codes "spaces"
what_text Blobs = codes "blobs"
what_text Refs = codes "refs"
what_text Links = codes "links"
what_text Units = codes "units"

-- the body for a change for which the history has no room, by its entries and links so far
abbrev pub history_full_body : ℕ → ℕ → List ℕ
history_full_body entries links = codes "{\"entries\":" ++ decimal entries ++ codes ",\"error\":\"history_full\",\"links\":" ++ decimal links ++ codes "}"

-- the body for a blob that is kept under this name, and whose bytes have another hash
abbrev pub damaged_body : IoHash → IoHash → List ℕ
damaged_body name found =
    codes "{\"error\":\"damaged\",\"found\":\"" ++ hash_text found ++ codes "\",\"named\":\"" ++ hash_text name ++ codes "\"}"

-- the reply of a store that refuses; want of memory has none. After a disk failed, and after a damaged blob,
-- the server closes
abbrev pub fault_reply : StoreFault → Bool → List ℕ
fault_reply (Broken faults) close = json_reply 503 (error_body (codes "broken")) true
fault_reply UnknownSpace close = json_reply 404 (error_body (codes "unknown_namespace")) close
fault_reply NotFound close = json_reply 404 (error_body (codes "not_found")) close
fault_reply NotFinalised close = json_reply 404 (error_body (codes "not_finalised")) close
fault_reply NotPending close = json_reply 409 (error_body (codes "not_pending")) close
fault_reply (Full what limit) close = json_reply 507 (full_body limit (what_text what)) close
fault_reply (HistoryFull entries links) close = json_reply 503 (history_full_body entries links) close
fault_reply NoMemory close = []
fault_reply DiskFailed close = json_reply 503 (error_body (codes "disk_failed")) true
fault_reply (Damaged name found) close = json_reply 500 (damaged_body name found) true

-- the reply to a request that isn't read
abbrev pub unread_reply : List ℕ
unread_reply = json_reply 400 (error_body (codes "unread")) true
