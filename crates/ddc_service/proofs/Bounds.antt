-- How long a request can be.
use Rattle.std.proofs.Common.{◌≡◌, ℕ, ◌≤◌, ◌+◌, Bool, true, false, cond, List, [], ◌∷◌, length, map, Option, Some, None, IfSome, ap, ◌∙◌, subst, arith, length-append, refl, nat_le, nat_eq, codes, ◌&&◌, drop}
use Rattle.std.specs.List.{starts_with}
use Rattle.std.proofs.lemmas.Bool.Decides.{nat_tests}
use Rattle.httparse.specs.Grammar.{RequestHead, print_request}
use Rattle.httparse.specs.Spans.{name_and_value}
use Rattle.ddc_names.specs.declared.hash.IoHash.{IoHash}
use Rattle.ddc_names.specs.declared.reference.RefName.{RefName}
use Rattle.ddc_protocol.specs.declared.request_form.RequestForm.{RequestForm}
use Rattle.ddc_protocol.specs.declared.request_form.RequestForm.TheVariants.{GetBlob, GetRef, Finalise}
use Rattle.ddc_protocol.specs.Fields.{values_of, decimal_value, same_text}
use Rattle.ddc_protocol.specs.HeadForms.{most_object_bytes, within_limit, put_length, put_blob_form, blob_form, put_ref_form, ref_form, finalise_form, refs_form, target_form, form_of_head, space_and_hash, ref_named, ref_and_hash, is_empty, is_of_type, is_without_body}
use Rattle.ddc_model.specs.Limits.{most_bytes}
use Rattle.ddc_protocol.specs.Requests.{Item, Asks, stores, mismatches, fetches, puts, breaks, reads, finalises, IsRequestText, body_length}
use Rattle.ddc_service.specs.inside.Writes.{IsStorable}

abbrev IsShort : Option RequestForm → Type 0
IsShort found = IfSome found (λ form. body_length form ≤ most_bytes)

chosen : (b : Bool) (x y : Option RequestForm) → IsShort x → IsShort y → IsShort (cond b x y)
chosen true x y p q = p
chosen false x y p q = q

within : (most : ℕ) (size : Option ℕ) → IfSome (within_limit most size) (λ n. n ≤ most)
within most None = tt
within most (Some n) = elim (nat_le n most) as (λ b. nat_le n most ≡ b → IfSome (cond b (Some n) None) (λ m. m ≤ most)) [
  | true ↦ λ e. grind (arith, nat_tests)
  | false ↦ λ e. tt
] refl

put_length-short : (most : ℕ) (values : List (List ℕ)) → IfSome (put_length most values) (λ n. n ≤ most)
put_length-short most [] = tt
put_length-short most (value ∷ []) = within most (decimal_value 19 value)
put_length-short most (value ∷ other ∷ values) = tt

put_blob_form-short : (blob : List ℕ × IoHash) (size : Option ℕ) → IfSome size (λ n. n ≤ most_bytes) → IsShort (put_blob_form blob size)
put_blob_form-short blob None h = tt
put_blob_form-short blob (Some n) h = h

put_ref_form-short : (name : RefName) (size : Option ℕ) → IfSome size (λ n. n ≤ most_object_bytes) → IsShort (put_ref_form name size)
put_ref_form-short name None h = tt
put_ref_form-short name (Some n) h = omega (arith, h)

blob_form-short : (method : List ℕ) (fields : List (List ℕ × List ℕ)) (blob : Option (List ℕ × IoHash)) → IsShort (blob_form method fields blob)
blob_form-short method fields None = tt
blob_form-short method fields (Some blob) =
    let lengths = values_of (codes "content-length") fields in
    chosen (same_text method (codes "PUT") && is_of_type (codes "application/octet-stream") (values_of (codes "content-type") fields)) _ _
    (put_blob_form-short blob (put_length most_bytes lengths) (put_length-short most_bytes lengths))
    (chosen (same_text method (codes "GET") && is_without_body lengths) (Some (GetBlob blob.0 blob.1)) None (omega arith) tt)

ref_form-short : (method : List ℕ) (fields : List (List ℕ × List ℕ)) (name : Option RefName) → IsShort (ref_form method fields name)
ref_form-short method fields None = tt
ref_form-short method fields (Some name) =
    let lengths = values_of (codes "content-length") fields in
    chosen (same_text method (codes "PUT") && is_of_type (codes "application/x-ue-cb") (values_of (codes "content-type") fields)) _ _
    (put_ref_form-short name (put_length most_object_bytes lengths) (put_length-short most_object_bytes lengths))
    (chosen (same_text method (codes "GET") && is_without_body lengths) (Some (GetRef name)) None (omega arith) tt)

finalise_form-short : (fields : List (List ℕ × List ℕ)) (named : Option (RefName × IoHash)) → IsShort (finalise_form fields named)
finalise_form-short fields None = tt
finalise_form-short fields (Some named) = chosen (is_without_body (values_of (codes "content-length") fields)) (Some (Finalise named.0 named.1)) None (omega arith) tt

target_form-short : (method : List ℕ) (fields : List (List ℕ × List ℕ)) (target : List ℕ) → IsShort (target_form method fields target)
target_form-short method fields target =
    chosen (starts_with nat_eq target (codes "/api/v1/blobs/")) _ _ (blob_form-short method fields (space_and_hash (drop 14 target)))
    (chosen (starts_with nat_eq target (codes "/api/v1/refs/")) (refs_form method fields (drop 13 target)) None
    (chosen (same_text method (codes "POST")) _ _ (finalise_form-short fields (ref_and_hash (drop 13 target))) (ref_form-short method fields (ref_named (drop 13 target)))) tt)

form_of_head-short : (head : RequestHead) → IsShort (form_of_head head)
form_of_head-short head =
    let fields = map name_and_value head.fields in
    chosen (is_empty (values_of (codes "transfer-encoding") fields) && is_empty (values_of (codes "x-jupiter-iohash") fields)) (target_form head.method fields head.target) None
    (target_form-short head.method fields head.target) tt

-- the most bytes of a request: a head of 16,384, and a body of 67,108,864
pub length-text : (text : List ℕ) (item : Item) → IsRequestText text item → length text ≤ 67125248
length-text text item s =
    let body : body_length s.form ≤ most_bytes = subst IsShort s.asks (form_of_head-short s.head) in
    let whole = s.whole in
    let short = s.is_head.short in
    let split : length text ≡ length (print_request s.head) + length s.body = ap length s.spelled ∙ length-append (print_request s.head) s.body in
    omega arith

fits_asked : (form : RequestForm) (body : List ℕ) (item : Item) → Asks body form item → length body ≤ most_bytes → IsStorable item
fits_asked _ body _ (stores content e k t) few = let long = ap length e in omega (arith, few)
fits_asked _ body _ (mismatches t) few = tt
fits_asked _ body _ fetches few = tt
fits_asked _ body _ (puts content e k o) few = let long = ap length e in (o, omega (arith, few))
fits_asked _ body _ (breaks h) few = tt
fits_asked _ body _ reads few = tt
fits_asked _ body _ finalises few = tt

-- what a request stores is within the limits
pub fits : (text : List ℕ) (item : Item) → IsRequestText text item → IsStorable item
fits text item s =
    let body : body_length s.form ≤ most_bytes = subst IsShort s.asks (form_of_head-short s.head) in
    let whole = s.whole in
    fits_asked s.form s.body item s.item_is (omega arith)
