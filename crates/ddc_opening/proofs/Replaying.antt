-- What one more body leads to.
use Rattle.std.proofs.Common.{◌≡◌, ℕ, ◌+◌, List, [], ◌∷◌, ◌++◌, length, refl, sym, ◌∙◌, ap, subst, arith, length-append}
use Rattle.std.specs.Prelude.{true}
use Rattle.std.specs.Int.{to_le_bytes, w32}
use Rattle.ddc_journal.specs.Journal.{framed, items}
use Rattle.ddc_model.specs.declared.rows.Limits.{Limits}
use Rattle.ddc_model.specs.declared.entry.Step.{Step}
use Rattle.ddc_model.specs.declared.entry.Step.TheVariants.{Change}
use Rattle.ddc_model.specs.State.{State, empty_state}
use Rattle.ddc_model.specs.Entries.{after, legal}
use Rattle.ddc_opening.specs.Changes.{after_more, legal_more, spelled_more, changes_more}
use Rattle.ddc_opening.specs.inside.Replaying.{AreReplayed, MakesBody}

pub replayed_more : (limits : Limits) (bodies : List (List ℕ)) (body : List ℕ) (s next : State) (steps longer : List Step)
    → AreReplayed limits bodies s steps → MakesBody body s next steps longer → AreReplayed limits (bodies ++ body ∷ []) next longer
replayed_more limits bodies body s next steps longer so_far makes = record {
  all = so_far.all ++ makes.entry ∷ [];
  spelled = spelled_more bodies so_far.all body makes.entry so_far.spelled makes.spellable makes.spelled;
  are_legal = legal_more (empty_state limits) so_far.all makes.entry so_far.are_legal (subst (λ (t : State). legal t makes.entry ≡ true) so_far.state makes.legal_is);
  state = makes.state ∙ ap (λ (t : State). after t makes.entry) so_far.state ∙ sym (after_more (empty_state limits) so_far.all makes.entry);
  steps_are = makes.steps_are ∙ ap (λ (l : List Step). l ++ Change makes.entry ∷ []) so_far.steps_are ∙ sym (changes_more so_far.all makes.entry);
}

-- before the first
pub replayed_none : (limits : Limits) (s : State) (steps : List Step) → s ≡ empty_state limits → steps ≡ [] → AreReplayed limits [] s steps
replayed_none limits s steps is none = record { all = []; spelled = tt; are_legal = tt; state = is; steps_are = none }

-- the length of an item
pub items_more : (bodies : List (List ℕ)) (body : List ℕ) → length (items (bodies ++ body ∷ [])) ≡ length (items bodies) + 5 + length body
items_more [] body = omega (arith, length-append (to_le_bytes w32 (length body)) body, length-append (framed body) [])
items_more (first ∷ bodies) body = omega (arith, items_more bodies body, length-append (framed first) (items (bodies ++ body ∷ [])), length-append (framed first) (items bodies))

-- where no item is left
pub none_left : (bodies : List (List ℕ)) → length bodies ≡ 0 → bodies ≡ []
none_left [] is = refl
none_left (body ∷ bodies) is = absurd (omega (arith, is))
