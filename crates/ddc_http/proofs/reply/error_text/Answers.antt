use Rattle.std.proofs.Common.{◌≡◌, codes, refl, ap, ◌∙◌}
use Rattle.std.proofs.lemmas.Result.{IfOk-weaker}
use Rattle.serde_json.specs.Data.{string, object, member, no_members}
use Rattle.serde_json.specs.View.{view}
use Rattle.serde_json.specs.Written.{compact_text}
use Rattle.serde_json.proofs.OnLiterals.{serde_json_on_literals}
use Rattle.ddc_protocol.specs.Replies.{error_body}
use Rattle.ddc_http.specs.declared.reply.ErrorCode.{ErrorCode}
use Rattle.ddc_http.specs.declared.reply.ErrorCode.TheVariants.{Unread, NotFound, UnknownNamespace, NotFinalised, NotPending, DiskFailed, Broken}
use Rattle.ddc_http.specs.Heads.{code_text}
use Rattle.ddc_http.proofs.reply.error_text.Goals as goal

-- a code has nothing to escape
written : (code : ErrorCode) → compact_text (object (member (codes "error") (string (code_text code)) no_members)) ≡ error_body (code_text code)
unfolding serde_json_on_literals
written Unread = refl
written NotFound = refl
written UnknownNamespace = refl
written NotFinalised = refl
written NotPending = refl
written DiskFailed = refl
written Broken = refl

pub returns : goal.returns
returns c =
    let code = c.args.code in
    let built : view c.in_ok-value.value ≡ object (member (codes "error") (string (code_text code)) no_members) =
    c.in_ok-value.ensures ∙ ap (λ text. object (member (codes "error") (string text) no_members)) c.text.ensures in
    IfOk-weaker c.to_string.result _ _ (λ s h. h (rw built refl) ∙ ap compact_text built ∙ written code) c.to_string.ensures.text
