-- What lists of entries leave, and one entry more.
use Rattle.std.specs.Prelude.{◌≡◌, ℕ, true, List, [], ◌∷◌, ◌++◌, map, None, refl}
use Rattle.std.proofs.Common.{ap}
use Rattle.ddc_model.specs.declared.rows.Limits.{Limits}
use Rattle.ddc_model.specs.declared.entry.Entry.{Entry}
use Rattle.ddc_model.specs.declared.entry.Step.{Step}
use Rattle.ddc_model.specs.declared.entry.Step.TheVariants.{Change}
use Rattle.ddc_model.specs.State.{State, empty_state}
use Rattle.ddc_model.specs.Entries.{after, legal}
use Rattle.ddc_model.specs.Extents.{IsPlaced}
use Rattle.ddc_model.specs.History.{after_steps, broken_by}
use Rattle.ddc_model.specs.Laws.{EmptyIsPlaced}
use Rattle.ddc_entry.specs.Spelling.{spelling, IsEntry}
use Rattle.ddc_opening.specs.Opening.{AreSpelled, AreLegal, after_all}

-- ---- the steps of entries

-- steps that are changes leave what their entries do
pub after_changes : (s : State) (all : List Entry) → after_steps s (map Change all) ≡ after_all s all
after_changes s [] = refl
after_changes s (entry ∷ all) = after_changes (after s entry) all

-- and break no store
pub unbroken_changes : (all : List Entry) → broken_by (map Change all) ≡ None
unbroken_changes [] = refl
unbroken_changes (entry ∷ all) = unbroken_changes all

-- ---- one entry more

pub after_more : (s : State) (all : List Entry) (entry : Entry) → after_all s (all ++ entry ∷ []) ≡ after (after_all s all) entry
after_more s [] entry = refl
after_more s (first ∷ all) entry = after_more (after s first) all entry

pub legal_more : (s : State) (all : List Entry) (entry : Entry) → AreLegal s all → legal (after_all s all) entry ≡ true → AreLegal s (all ++ entry ∷ [])
legal_more s [] entry legal fits = (fits, tt)
legal_more s (first ∷ all) entry legal fits = (legal.0, legal_more (after s first) all entry legal.1 fits)

pub spelled_more : (bodies : List (List ℕ)) (all : List Entry) (body : List ℕ) (entry : Entry) → AreSpelled bodies all → IsEntry entry → body ≡ spelling entry → AreSpelled (bodies ++ body ∷ []) (all ++ entry ∷ [])
spelled_more [] [] body entry spelled is same = (is, same, tt)
spelled_more [] (first ∷ all) body entry spelled is same = absurd spelled
spelled_more (front ∷ bodies) [] body entry spelled is same = absurd spelled
spelled_more (front ∷ bodies) (first ∷ all) body entry spelled is same = (spelled.0, spelled.1, spelled_more bodies all body entry spelled.2 is same)

pub changes_more : (all : List Entry) (entry : Entry) → map Change (all ++ entry ∷ []) ≡ map Change all ++ Change entry ∷ []
changes_more [] entry = refl
changes_more (first ∷ all) entry = ap (λ (steps : List Step). Change first ∷ steps) (changes_more all entry)

-- ---- the blobs keep apart

module _ (stays : (s : State) (entry : Entry) → IsPlaced s → legal s entry ≡ true → IsPlaced (after s entry)) where
  -- after legal entries the blobs stand as they may
  pub all_placed : (s : State) (all : List Entry) → IsPlaced s → AreLegal s all → IsPlaced (after_all s all)
  all_placed s [] placed legal = placed
  all_placed s (entry ∷ all) placed legal = all_placed (after s entry) all (stays s entry placed legal.0) legal.1

  -- so they do in every state that entries lead to from nothing
  pub placed_from_nothing : EmptyIsPlaced → (limits : Limits) (all : List Entry) → AreLegal (empty_state limits) all → IsPlaced (after_all (empty_state limits) all)
  placed_from_nothing empty limits all legal = all_placed (empty_state limits) all (empty limits) legal
