-- What is kept beside the steps, as steps are added.
use Rattle.std.specs.Prelude.{◌≡◌, ℕ, ◌+◌, ◌<◌, Bool, List, [], ◌∷◌, ◌++◌, Option, None, Some}
use Rattle.std.proofs.Common.{ap, sym, ◌∙◌}
use Rattle.ddc_model.specs.declared.rows.Limits.{Limits}
use Rattle.ddc_model.specs.declared.entry.Entry.{Entry}
use Rattle.ddc_model.specs.declared.entry.Step.{Step}
use Rattle.ddc_model.specs.declared.entry.Step.TheVariants.{Loaded, Change, Broke}
use Rattle.ddc_model.specs.Counts.{added_links, fresh_of}
use Rattle.ddc_model.specs.History.{broken_by, none_yet, Past, past_of}
use Rattle.ddc_book.specs.inside.Tallies.{IsTallied}
use Rattle.ddc_book.proofs.Steps.{broken_more, past_more}

module _ (steps : List Step) (len capacity : ℕ) (unbroken : broken_by steps ≡ None) where
  past_is : (step : Step) (past : Past) → past_of (steps ++ step ∷ []) ≡ past → (more : List Step) → more ≡ steps ++ step ∷ [] → past_of more ≡ past
  past_is step past is more same = ap past_of same ∙ is

  pub tally_opened : (limits : Limits) (faults : ℕ) (more : List Step) → more ≡ steps ++ Loaded limits faults ∷ [] → len < capacity → IsTallied more 0 0 None len capacity
  tally_opened limits faults more same room =
      let past = ap past_of same ∙ past_more none_yet steps (Loaded limits faults ∷ []) in
      record {
        entries_are = sym (ap (λ (p : Past). p.entries) past);
        links_are = sym (ap (λ (p : Past). p.links) past);
        broken_is = sym (ap broken_by same ∙ broken_more steps (Loaded limits faults ∷ []) unbroken);
        room = λ none. room;
      }

  pub tally_made : (old_len old_capacity entries links added : ℕ) (broken : Option ℕ) (entry : Entry) (more : List Step) → IsTallied steps entries links broken old_len old_capacity → added ≡ added_links (fresh_of entry)
      → more ≡ steps ++ Change entry ∷ [] → len < capacity → IsTallied more (entries + 1) (links + added) broken len capacity
  tally_made old_len old_capacity entries links added broken entry more old is same room =
      let past = ap past_of same ∙ past_more none_yet steps (Change entry ∷ []) in
      record {
        entries_are = ap (λ (n : ℕ). n + 1) old.entries_are ∙ sym (ap (λ (p : Past). p.entries) past);
        links_are = (λ i. old.links_are i + is i) ∙ sym (ap (λ (p : Past). p.links) past);
        broken_is = old.broken_is ∙ unbroken ∙ sym (ap broken_by same ∙ broken_more steps (Change entry ∷ []) unbroken);
        room = λ none. room;
      }

  pub tally_broken : (old_len old_capacity entries links : ℕ) (broken : Option ℕ) (changed : Bool) (before now : ℕ) (more : List Step) → IsTallied steps entries links broken old_len old_capacity
      → more ≡ steps ++ Broke changed before now ∷ [] → IsTallied more entries links (Some now) len capacity
  tally_broken old_len old_capacity entries links broken changed before now more old same =
      let past = ap past_of same ∙ past_more none_yet steps (Broke changed before now ∷ []) in
      let is_broken = ap broken_by same ∙ broken_more steps (Broke changed before now ∷ []) unbroken in
      record {
        entries_are = old.entries_are ∙ sym (ap (λ (p : Past). p.entries) past);
        links_are = old.links_are ∙ sym (ap (λ (p : Past). p.links) past);
        broken_is = sym is_broken;
        room = λ none. let never : Some now ≡ None = sym is_broken ∙ none in absurd (cc);
      }
