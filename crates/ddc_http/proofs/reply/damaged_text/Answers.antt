use Rattle.std.proofs.Common.{◌≡◌, codes, refl, sym, ap, ◌∙◌}
use Rattle.std.proofs.lemmas.Result.{IfOk-weaker}
use Rattle.json.specs.Print.{escape}
use Rattle.serde_json.specs.Written.{compact_text}
use Rattle.serde_json.proofs.OnLiterals.{serde_json_on_literals}
use Rattle.ddc_http.proofs.Pairs.{plainly}
use Rattle.ddc_http.proofs.reply.damaged_text.Goals as goal

word : escape (codes "damaged") ≡ codes "damaged"
unfolding serde_json_on_literals
word = refl

pub returns : goal.returns
returns c =
    let found = c.as_str.ensures.value in
    let named = c.as_str-2.ensures.value in
    let text = ap compact_text c.in_ok-value.ensures ∙ plainly (codes "damaged") c.as_str.result.now c.as_str-2.result.now _ _ word
    (ap escape found ∙ c.in_ok-found.ensures.plain ∙ sym found) (ap escape named ∙ c.in_ok-named.ensures.plain ∙ sym named)
    (found ∙ c.in_ok-found.ensures.digits) (named ∙ c.in_ok-named.ensures.digits) in
    IfOk-weaker c.to_string.result _ _ (λ s h. h (rw c.in_ok-value.ensures refl) ∙ text) c.to_string.ensures.text
