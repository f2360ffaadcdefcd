-- The body that says a word, the hash that was found and the hash that was named.
use Rattle.std.proofs.Common.{◌≡◌, ◌++◌, List, ℕ, codes, ap, ◌∙◌, append_assoc}
use Rattle.json.specs.Print.{escape}
use Rattle.serde_json.specs.Data.{Data, string, object, member, no_members}
use Rattle.serde_json.specs.Written.{compact_text}
use Rattle.serde_json.proofs.OnLiterals.{serde_json_on_literals}

abbrev pub pair : List ℕ → List ℕ → List ℕ → Data
pair word found named =
    object (member (codes "error") (string word) (member (codes "found") (string found) (member (codes "named") (string named) no_members)))

abbrev pub pair_text : List ℕ → List ℕ → List ℕ → List ℕ
pair_text word found named =
    codes "{\"error\":\"" ++ word ++ codes "\",\"found\":\"" ++ found ++ codes "\",\"named\":\"" ++ named ++ codes "\"}"

written : (word found named : List ℕ) → compact_text (pair word found named) ≡ pair_text (escape word) (escape found) (escape named)
unfolding serde_json_on_literals
written word found named = simp append_assoc

-- a word and digits with nothing to escape are written as they are
pub plainly : (word found named digits others : List ℕ) → escape word ≡ word → escape found ≡ found → escape named ≡ named → found ≡ digits → named ≡ others
    → compact_text (pair word found named) ≡ pair_text word digits others
plainly word found named digits others o p q e f =
    written word found named ∙ ap (λ text. pair_text text (escape found) (escape named)) o ∙ ap (λ text. pair_text word text (escape named)) (p ∙ e) ∙ ap (pair_text word digits) (q ∙ f)
