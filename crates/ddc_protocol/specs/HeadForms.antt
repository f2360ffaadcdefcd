-- What a request head asks for.
use Rattle.std.specs.Prelude.{ℕ, ◌+◌, Bool, true, false, ◌&&◌, List, [], ◌∷◌, take, drop, map, Option, Some, None, codes, if◌then◌else◌, ◌==◌, nat_eq, nat_le}
use Rattle.std.specs.List.{starts_with, position}
use Rattle.std.specs.Option.{option_zip}
use Rattle.std.specs.Result.{result_ok}
use Rattle.httparse.specs.Grammar.{RequestHead}
use Rattle.httparse.specs.Spans.{name_and_value}
use Rattle.ddc_names.specs.declared.hash.IoHash.{IoHash}
use Rattle.ddc_names.specs.declared.reference.RefKey.{RefKey}
use Rattle.ddc_names.specs.declared.reference.RefSpot.{RefSpot}
use Rattle.ddc_names.specs.declared.reference.RefName.{RefName}
use Rattle.ddc_names.specs.Names.{name_of, key_of, hash_of}
use Rattle.ddc_model.specs.Limits.{most_bytes}
use Rattle.ddc_protocol.specs.declared.request_form.RequestForm.{RequestForm}
use Rattle.ddc_protocol.specs.declared.request_form.RequestForm.TheVariants.{PutBlob, GetBlob, PutRef, GetRef, Finalise}
use Rattle.ddc_protocol.specs.Fields.{same_text, values_of, decimal_value}

-- the most bytes of an object that is put under a reference
abbrev pub most_object_bytes : ℕ
most_object_bytes = 16777216

-- ---- targets

abbrev pub is_slash : ℕ → Bool
is_slash byte = byte == 47

abbrev pub cut_at : List ℕ → Option ℕ → Option (List ℕ × List ℕ)
cut_at text (Some slash) = Some (take slash text, drop (slash + 1) text)
cut_at text None = None

-- what stands before and after the first slash
abbrev pub cut_text : List ℕ → Option (List ℕ × List ℕ)
cut_text text = cut_at text (position is_slash text)

-- a namespace and a hash, with a slash between
abbrev pub space_and_hash_in : Option (List ℕ × List ℕ) → Option (List ℕ × IoHash)
space_and_hash_in (Some parts) = option_zip (result_ok (name_of parts.0)) (hash_of parts.1)
space_and_hash_in None = None

abbrev pub space_and_hash : List ℕ → Option (List ℕ × IoHash)
space_and_hash text = space_and_hash_in (cut_text text)

abbrev pub spot_of : Option (List ℕ × RefKey) → Option RefSpot
spot_of (Some parts) = Some (record { bucket = parts.0; key = parts.1 })
spot_of None = None

-- a bucket and a key, with a slash between
abbrev pub spot_in : Option (List ℕ × List ℕ) → Option RefSpot
spot_in (Some parts) = spot_of (option_zip (result_ok (name_of parts.0)) (result_ok (key_of parts.1)))
spot_in None = None

abbrev pub ref_of : Option (List ℕ × RefSpot) → Option RefName
ref_of (Some parts) = Some (record { space = parts.0; spot = parts.1 })
ref_of None = None

-- a namespace, a bucket and a key, with a slash after each of the first two
abbrev pub ref_in : Option (List ℕ × List ℕ) → Option RefName
ref_in (Some parts) = ref_of (option_zip (result_ok (name_of parts.0)) (spot_in (cut_text parts.1)))
ref_in None = None

abbrev pub ref_named : List ℕ → Option RefName
ref_named text = ref_in (cut_text text)

-- `finalize/` and a hash
abbrev pub finalize_hash : List ℕ → Option IoHash
finalize_hash text = if starts_with nat_eq text (codes "finalize/") then hash_of (drop 9 text) else None

abbrev pub spot_and_hash_of : List ℕ → Option (List ℕ × List ℕ) → Option (RefSpot × IoHash)
spot_and_hash_of bucket (Some parts) = option_zip (spot_of (option_zip (result_ok (name_of bucket)) (result_ok (key_of parts.0)))) (finalize_hash parts.1)
spot_and_hash_of bucket None = None

-- a bucket, a key, `finalize` and a hash, with slashes between
abbrev pub spot_and_hash_in : Option (List ℕ × List ℕ) → Option (RefSpot × IoHash)
spot_and_hash_in (Some parts) = spot_and_hash_of parts.0 (cut_text parts.1)
spot_and_hash_in None = None

abbrev pub ref_and_hash_of : Option (List ℕ × (RefSpot × IoHash)) → Option (RefName × IoHash)
ref_and_hash_of (Some parts) = Some (record { space = parts.0; spot = parts.1.0 }, parts.1.1)
ref_and_hash_of None = None

-- a namespace, a bucket, a key, `finalize` and a hash, with slashes between
abbrev pub ref_and_hash_in : Option (List ℕ × List ℕ) → Option (RefName × IoHash)
ref_and_hash_in (Some parts) = ref_and_hash_of (option_zip (result_ok (name_of parts.0)) (spot_and_hash_in (cut_text parts.1)))
ref_and_hash_in None = None

abbrev pub ref_and_hash : List ℕ → Option (RefName × IoHash)
ref_and_hash text = ref_and_hash_in (cut_text text)

-- ---- fields

-- the length of a put's body: one Content-Length of 1 to 19 digits, within the limit
abbrev pub within_limit : ℕ → Option ℕ → Option ℕ
within_limit most (Some size) = if nat_le size most then Some size else None
within_limit most None = None

abbrev pub put_length : ℕ → List (List ℕ) → Option ℕ
put_length most (value ∷ []) = within_limit most (decimal_value 19 value)
put_length most (value ∷ other ∷ values) = None
put_length most [] = None

-- a request that isn't a put has no body: no Content-Length, or one that is `0`
abbrev pub is_without_body : List (List ℕ) → Bool
is_without_body [] = true
is_without_body (value ∷ []) = same_text value (codes "0")
is_without_body (value ∷ other ∷ values) = false

-- no Content-Type, or this one; of several the first counts
abbrev pub is_of_type : List ℕ → List (List ℕ) → Bool
is_of_type kind [] = true
is_of_type kind (value ∷ values) = same_text value kind

abbrev pub is_empty : List (List ℕ) → Bool
is_empty [] = true
is_empty (value ∷ values) = false

-- ---- forms

-- what a head of this method and these fields asks of a blob
abbrev pub put_blob_form : List ℕ × IoHash → Option ℕ → Option RequestForm
put_blob_form blob (Some size) = Some (PutBlob blob.0 blob.1 size)
put_blob_form blob None = None

abbrev pub blob_form : List ℕ → List (List ℕ × List ℕ) → Option (List ℕ × IoHash) → Option RequestForm
blob_form method fields (Some blob) =
    if same_text method (codes "PUT") && is_of_type (codes "application/octet-stream") (values_of (codes "content-type") fields)
    then put_blob_form blob (put_length most_bytes (values_of (codes "content-length") fields))
    else if same_text method (codes "GET") && is_without_body (values_of (codes "content-length") fields)
    then Some (GetBlob blob.0 blob.1)
    else None
blob_form method fields None = None

-- and of a reference
abbrev pub put_ref_form : RefName → Option ℕ → Option RequestForm
put_ref_form name (Some size) = Some (PutRef name size)
put_ref_form name None = None

abbrev pub ref_form : List ℕ → List (List ℕ × List ℕ) → Option RefName → Option RequestForm
ref_form method fields (Some name) =
    if same_text method (codes "PUT") && is_of_type (codes "application/x-ue-cb") (values_of (codes "content-type") fields)
    then put_ref_form name (put_length most_object_bytes (values_of (codes "content-length") fields))
    else if same_text method (codes "GET") && is_without_body (values_of (codes "content-length") fields)
    then Some (GetRef name)
    else None
ref_form method fields None = None

abbrev pub finalise_form : List (List ℕ × List ℕ) → Option (RefName × IoHash) → Option RequestForm
finalise_form fields (Some named) = if is_without_body (values_of (codes "content-length") fields) then Some (Finalise named.0 named.1) else None
finalise_form fields None = None

-- a post finalises
abbrev pub refs_form : List ℕ → List (List ℕ × List ℕ) → List ℕ → Option RequestForm
refs_form method fields text = if same_text method (codes "POST") then finalise_form fields (ref_and_hash text) else ref_form method fields (ref_named text)

-- `/api/v1/blobs/{namespace}/{hash}`, `/api/v1/refs/{namespace}/{bucket}/{key}` and its `/finalize/{hash}`
abbrev pub target_form : List ℕ → List (List ℕ × List ℕ) → List ℕ → Option RequestForm
target_form method fields target =
    if starts_with nat_eq target (codes "/api/v1/blobs/") then blob_form method fields (space_and_hash (drop 14 target)) else
    if starts_with nat_eq target (codes "/api/v1/refs/") then refs_form method fields (drop 13 target) else None

-- what a head of this method, target and these fields asks for, where it is of a form that is answered.
-- A body in another coding, and a hash beside the path's, are not read
abbrev pub request_form : List ℕ → List ℕ → List (List ℕ × List ℕ) → Option RequestForm
request_form method target fields =
    if is_empty (values_of (codes "transfer-encoding") fields) && is_empty (values_of (codes "x-jupiter-iohash") fields)
    then target_form method fields target
    else None

abbrev pub form_of_head : RequestHead → Option RequestForm
form_of_head head = request_form head.method head.target (map name_and_value head.fields)
