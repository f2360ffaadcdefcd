-- The texts of a head and of a refusal, and the phrases of the statuses that the server answers.
use Rattle.std.specs.Prelude.{◌≡◌, ℕ, List, [], Some, codes, ⊤}
use Rattle.http.specs.StatusCode.{reason_phrase}
use Rattle.ddc_protocol.specs.Replies.{head_text, json, octets, compact, error_body, mismatch_body, not_object_body}
use Rattle.ddc_http.specs.declared.reply.ErrorCode.{ErrorCode}
use Rattle.ddc_http.specs.declared.reply.ErrorCode.TheVariants.{Unread, NotFound, UnknownNamespace, NotFinalised, NotPending, DiskFailed, Broken}
use Rattle.ddc_http.specs.declared.reply.Head.{Head}
use Rattle.ddc_http.specs.declared.reply.Kind.{Kind}
use Rattle.ddc_http.specs.declared.reply.Kind.TheVariants.{Json, Octets, Compact}
use Rattle.ddc_http.specs.declared.request.HttpFault.{HttpFault}
use Rattle.ddc_http.specs.declared.request.HttpFault.TheVariants

-- the media type of a body
abbrev pub kind_text : Kind → List ℕ
kind_text Json = json
kind_text Octets = octets
kind_text Compact = compact

-- the text of a head, to its empty line
abbrev pub text_of : Head → List ℕ
text_of head = head_text head.status (kind_text head.kind) head.hash head.length head.close

-- the word of a refusal
abbrev pub code_text : ErrorCode → List ℕ
code_text Unread = codes "unread"
code_text NotFound = codes "not_found"
code_text UnknownNamespace = codes "unknown_namespace"
code_text NotFinalised = codes "not_finalised"
code_text NotPending = codes "not_pending"
code_text DiskFailed = codes "disk_failed"
code_text Broken = codes "broken"

-- the faults that get a reply
abbrev pub IsAnswered : HttpFault → Type 0
IsAnswered TheVariants.Unread = ⊤
IsAnswered (TheVariants.HashMismatch named found) = ⊤
IsAnswered (TheVariants.NotAnObject at) = ⊤
IsAnswered other = ⊥

-- the body of that reply
abbrev pub fault_text : HttpFault → List ℕ
fault_text TheVariants.Unread = error_body (codes "unread")
fault_text (TheVariants.HashMismatch named found) = mismatch_body named found
fault_text (TheVariants.NotAnObject at) = not_object_body at
fault_text other = []

-- the phrases of RFC 9110, section 15, for the statuses that the server answers
pub record StatusPhrases : Type 0 where
  pub ok : reason_phrase 200 ≡ Some (codes "OK")
  pub bad_request : reason_phrase 400 ≡ Some (codes "Bad Request")
  pub not_found : reason_phrase 404 ≡ Some (codes "Not Found")
  pub method_not_allowed : reason_phrase 405 ≡ Some (codes "Method Not Allowed")
  pub conflict : reason_phrase 409 ≡ Some (codes "Conflict")
  pub gone : reason_phrase 410 ≡ Some (codes "Gone")
  pub length_required : reason_phrase 411 ≡ Some (codes "Length Required")
  pub payload_too_large : reason_phrase 413 ≡ Some (codes "Payload Too Large")
  pub unsupported_media_type : reason_phrase 415 ≡ Some (codes "Unsupported Media Type")
  pub fields_too_large : reason_phrase 431 ≡ Some (codes "Request Header Fields Too Large")
  pub internal_error : reason_phrase 500 ≡ Some (codes "Internal Server Error")
  pub unavailable : reason_phrase 503 ≡ Some (codes "Service Unavailable")
  pub insufficient_storage : reason_phrase 507 ≡ Some (codes "Insufficient Storage")
