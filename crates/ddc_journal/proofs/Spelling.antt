-- The spelling of a journal with one body more.
use Rattle.std.proofs.Common.{◌≡◌, ◌≢◌, ℕ, ◌<◌, ◌^◌, List, [], ◌∷◌, ◌++◌, length, sym, ◌∙◌, ap, arith, append_assoc}
use Rattle.std.proofs.lemmas.List.{append-nil}
use Rattle.ddc_journal.specs.Journal.{framed, items, head_bytes, journal_bytes, AreSized}

pub items-push : (bodies : List (List ℕ)) (body : List ℕ) → items (bodies ++ body ∷ []) ≡ items bodies ++ 1 ∷ framed body
items-push [] body = ap (λ (l : List ℕ). 1 ∷ l) (append-nil (framed body))
items-push (b ∷ bodies) body = ap (λ (l : List ℕ). 1 ∷ l) (ap (λ (l : List ℕ). framed b ++ l) (items-push bodies body) ∙ sym (append_assoc (framed b) (items bodies) (1 ∷ framed body)))

pub journal-push : (version generation : ℕ) (bodies : List (List ℕ)) (body : List ℕ) → journal_bytes version generation (bodies ++ body ∷ []) ≡ journal_bytes version generation bodies ++ 1 ∷ framed body
journal-push version generation bodies body =
    ap (λ (l : List ℕ). head_bytes version generation ++ 1 ∷ l) (items-push bodies body) ∙ sym (append_assoc (head_bytes version generation) (1 ∷ items bodies) (1 ∷ framed body))

pub sized-push : (bodies : List (List ℕ)) (body : List ℕ) → AreSized bodies → length body < 2 ^ 32 → AreSized (bodies ++ body ∷ [])
sized-push [] body sized small = (small, tt)
sized-push (b ∷ bodies) body sized small = (sized.0, sized-push bodies body sized.1 small)

pub shut : ◌≢◌ {A = ℕ} 0 1
shut = λ e. absurd (omega (arith, e))
