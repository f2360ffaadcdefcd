-- A list of hashes, one hash more.
use Rattle.std.proofs.Common.{◌≡◌, ℕ, zero, suc, ◌<◌, ◌+◌, ◌==◌, List, [], ◌∷◌, ◌++◌, length, take, get_or, false, codes, refl, ap, ◌∙◌, sym, append_assoc, arith}
use Rattle.std.proofs.lemmas.List.{take_more}
use Rattle.std.proofs.lemmas.Bool.Decides.{nat_tests}
use Rattle.ddc_names.specs.declared.hash.IoHash.{IoHash}
use Rattle.ddc_names.specs.Names.{hash_text}
use Rattle.ddc_protocol.specs.Replies.{hash_list}
use Rattle.ddc_model.specs.Commands.{needs_none}
use Rattle.ddc_http.specs.inside.Entries.{hash_entry}

pub hash_list-more : (hashes : List IoHash) (hash : IoHash) → hash_list (hashes ++ hash ∷ []) ≡ hash_list hashes ++ hash_entry (needs_none hashes) hash
hash_list-more [] hash = refl
hash_list-more (x ∷ []) hash =
    let front = codes "\"" ++ hash_text x in
    append_assoc front (codes "\",") (hash_list (hash ∷ [])) ∙ sym (append_assoc front (codes "\"") (hash_entry false hash))
hash_list-more (x ∷ y ∷ hashes) hash =
    let front = codes "\"" ++ hash_text x ++ codes "\"," in
    ap (λ l. front ++ l) (hash_list-more (y ∷ hashes) hash) ∙ sym (append_assoc front (hash_list (y ∷ hashes)) (hash_entry false hash))

is_empty-take : (hashes : List IoHash) (i : ℕ) → i < length hashes → needs_none (take i hashes) ≡ (i == 0)
is_empty-take [] i within = absurd (omega arith)
is_empty-take (x ∷ hashes) zero within = refl
is_empty-take (x ∷ hashes) (suc i) within = grind (arith, nat_tests)

pub hash_list-take : (hashes : List IoHash) (i : ℕ) (d : IoHash) → i < length hashes → hash_list (take (i + 1) hashes) ≡ hash_list (take i hashes) ++ hash_entry (i == 0) (get_or hashes i d)
hash_list-take hashes i d within =
    ap hash_list (take_more hashes i d within) ∙ hash_list-more (take i hashes) (get_or hashes i d)
    ∙ ap (λ b. hash_list (take i hashes) ++ hash_entry b (get_or hashes i d)) (is_empty-take hashes i within)
