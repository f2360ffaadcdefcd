use Rattle.std.proofs.Common.{◌≡◌, ℕ, codes, refl, ap, ◌∙◌, append_assoc}
use Rattle.std.proofs.lemmas.Result.{IfOk-weaker}
use Rattle.serde_json.specs.Data.{Data, string, number, unsigned, object, member, no_members}
use Rattle.serde_json.specs.Written.{compact_text}
use Rattle.serde_json.proofs.OnLiterals.{serde_json_on_literals}
use Rattle.ddc_protocol.specs.Replies.{history_full_body}
use Rattle.ddc_http.proofs.reply.history_full_text.Goals as goal

abbrev history : ℕ → ℕ → Data
history entries links =
    object (member (codes "entries") (number (unsigned entries)) (member (codes "error") (string (codes "history_full")) (member (codes "links") (number (unsigned links)) no_members)))

written : (entries links : ℕ) → compact_text (history entries links) ≡ history_full_body entries links
unfolding serde_json_on_literals
written entries links = simp append_assoc

pub returns : goal.returns
returns c =
    let text = ap compact_text c.in_ok-value.ensures ∙ written c.args.entries c.args.links in
    IfOk-weaker c.to_string.result _ _ (λ s h. h (rw c.in_ok-value.ensures refl) ∙ text) c.to_string.ensures.text
