use Rattle.std.proofs.Common.{◌≡◌, List, ℕ, codes, refl, ap, ◌∙◌, append_assoc}
use Rattle.std.proofs.lemmas.Result.{IfOk-weaker}
use Rattle.json.specs.Print.{escape}
use Rattle.serde_json.specs.Data.{Data, string, number, unsigned, object, member, no_members}
use Rattle.serde_json.specs.View.{view}
use Rattle.serde_json.specs.Written.{compact_text}
use Rattle.serde_json.proofs.OnLiterals.{serde_json_on_literals}
use Rattle.ddc_model.specs.declared.fault.What.{What}
use Rattle.ddc_model.specs.declared.fault.What.TheVariants.{Spaces, Blobs, Refs, Links, Units}
use Rattle.ddc_protocol.specs.Replies.{full_body, what_text}
use Rattle.ddc_http.proofs.reply.full_text.Goals as goal

abbrev full : ℕ → List ℕ → Data
full limit what =
    object (member (codes "error") (string (codes "full")) (member (codes "limit") (number (unsigned limit)) (member (codes "what") (string what) no_members)))

written : (limit : ℕ) (what : List ℕ) → compact_text (full limit what) ≡ full_body limit (escape what)
unfolding serde_json_on_literals
written limit what = simp append_assoc

-- a word has nothing to escape
plain : (what : What) → escape (what_text what) ≡ what_text what
unfolding serde_json_on_literals
plain Spaces = refl
plain Blobs = refl
plain Refs = refl
plain Links = refl
plain Units = refl

pub returns : goal.returns
returns c =
    let what = c.args.what in
    let limit = c.args.limit in
    let built : view c.in_ok-value.value ≡ full limit (what_text what) = c.in_ok-value.ensures ∙ ap (full limit) c.what_text.ensures in
    IfOk-weaker c.to_string.result _ _ (λ s h. h (rw built refl) ∙ ap compact_text built ∙ written limit (what_text what) ∙ ap (full_body limit) (plain what)) c.to_string.ensures.text
