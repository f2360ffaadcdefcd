-- A book that was opened just now.
use Rattle.std.proofs.Common.{◌≡◌, ℕ, List, [], ◌∷◌, ◌++◌, None, refl, ◌∙◌, ap}
use Rattle.ddc_disk.specs.Disk.{Meaning}
use Rattle.ddc_model.specs.declared.rows.Limits.{Limits}
use Rattle.ddc_model.specs.declared.entry.Step.{Step}
use Rattle.ddc_model.specs.declared.entry.Step.TheVariants.{Loaded}
use Rattle.ddc_model.specs.History.{Past, none_yet, past_after, past_of_all, past_of, broken_by}
use Rattle.ddc_book.specs.Loading.{HasOpened}
use Rattle.ddc_book.specs.View.{BookView, limits_of, book_faults}
use Rattle.ddc_book.proofs.Steps.{broken_more}
use Rattle.ddc_service.specs.Replies.{just_opened}
use Rattle.ddc_service.specs.Session.{store_of}

past_from : (past : Past) (changes : List Step) (limits : Limits) (faults : ℕ) → past_of_all past (changes ++ Loaded limits faults ∷ []) ≡ none_yet
past_from past [] limits faults = refl
past_from past (step ∷ changes) limits faults = past_from (past_after past step) changes limits faults

module _ {D : Type 0} (meaning : D → Meaning) (book : BookView D) (changes : List Step) (opened : HasOpened meaning book changes) where
  pub nothing_yet : past_of book.steps ≡ none_yet
  nothing_yet = ap past_of opened ∙ past_from none_yet changes (limits_of book) (book_faults meaning book)

  pub is_unbroken : broken_by changes ≡ None → broken_by book.steps ≡ None
  is_unbroken unbroken = ap broken_by opened ∙ broken_more changes (Loaded (limits_of book) (book_faults meaning book) ∷ []) unbroken

  pub opens_just : store_of book ≡ just_opened book.cache
  opens_just = ap (λ past. record { cache = book.cache; past = past }) nothing_yet
