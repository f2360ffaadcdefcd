-- What is kept beside the steps of a store.
use Rattle.std.specs.Prelude.{◌≡◌, ℕ, ◌<◌, List, Option, None}
use Rattle.ddc_model.specs.declared.entry.Step.{Step}
use Rattle.ddc_model.specs.History.{broken_by, past_of}

-- the counts are those since the opening, and where the store isn't broken, there is room for one step more
pub record IsTallied (steps : List Step) (entries links : ℕ) (broken : Option ℕ) (len capacity : ℕ) : Type 0 where
  pub entries_are : entries ≡ (past_of steps).entries
  pub links_are : links ≡ (past_of steps).links
  pub broken_is : broken ≡ broken_by steps
  pub room : broken_by steps ≡ None → len < capacity
