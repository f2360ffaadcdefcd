use Rattle.std.proofs.Common.{◌≡◌, ◌++◌, ◌∷◌, [], List, ℕ, codes, refl, sym, ap, ◌∙◌, append_assoc}
use Rattle.std.proofs.lemmas.Result.{IfOk-weaker}
use Rattle.json.specs.Print.{escape}
use Rattle.serde_json.specs.Data.{string, object, member, no_members}
use Rattle.serde_json.specs.Written.{compact_text}
use Rattle.serde_json.proofs.OnLiterals.{serde_json_on_literals}
use Rattle.ddc_http.proofs.reply.identifier_text.Goals as goal

written : (digits : List ℕ) → escape digits ≡ digits
    → compact_text (object (member (codes "identifier") (string digits) no_members)) ≡ codes "{\"identifier\":\"" ++ digits ++ codes "\"}"
unfolding serde_json_on_literals
written digits same =
    ap (λ text. codes "{\"identifier\":\"" ++ text) (append_assoc (escape digits) (34 ∷ []) (125 ∷ []) ∙ ap (λ text. text ++ codes "\"}") same)

pub returns : goal.returns
returns c =
    let digits = c.as_str.ensures.value ∙ c.in_ok-identifier.ensures.digits in
    let same = ap escape c.as_str.ensures.value ∙ c.in_ok-identifier.ensures.plain ∙ sym c.as_str.ensures.value in
    let text = ap compact_text c.in_ok-value.ensures ∙ written c.as_str.result.now same ∙ ap (λ text. codes "{\"identifier\":\"" ++ text ++ codes "\"}") digits in
    IfOk-weaker c.to_string.result _ _ (λ s h. h (rw c.in_ok-value.ensures refl) ∙ text) c.to_string.ensures.text
