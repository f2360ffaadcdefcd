-- What opening a store leaves.
use Rattle.std.specs.Prelude.{◌≡◌, ℕ, Bool, IsTrue, List, [], ◌∷◌, ◌++◌, None}
use Rattle.ddc_disk.specs.Disk.{Meaning, EachImage, IsSure}
use Rattle.ddc_disk.specs.Images.{devices_line}
use Rattle.ddc_disk.specs.declared.devices.Devices.{Devices}
use Rattle.ddc_model.specs.declared.rows.Limits.{Limits}
use Rattle.ddc_model.specs.declared.entry.Step.{Step}
use Rattle.ddc_model.specs.declared.entry.Step.TheVariants.{Loaded}
use Rattle.ddc_model.specs.State.{empty_state}
use Rattle.ddc_model.specs.Sound.{AreWhole, empty_cache}
use Rattle.ddc_model.specs.History.{broken_by}
use Rattle.ddc_journal.specs.Pairs.{IsNewPair}
use Rattle.ddc_opening.specs.Opening.{version, OpensAs}
use Rattle.ddc_opening.specs.Loading.{AsBefore, Creates, HeldSteps}
use Rattle.ddc_book.specs.View.{BookView, limits_of, book_line, book_faults}

-- after these changes stands the opening, with the devices' count of faults, and nothing yet
abbrev pub HasOpened : {D : Type 0} → (D → Meaning) → BookView D → List Step → Type 0
HasOpened meaning book changes = book.steps ≡ changes ++ Loaded (limits_of book) (book_faults meaning book) ∷ []

-- a crash leaves what the devices hold
pub record AreSure {D : Type 0} (meaning : D → Meaning) (devices : Devices D) : Type 0 where
  pub first : List ℕ
  pub second : List ℕ
  pub blobs : List ℕ
  pub first_sure : IsSure (meaning devices.first) first
  pub second_sure : IsSure (meaning devices.second) second
  pub blobs_sure : IsSure (meaning devices.blobs) blobs

-- the book of what the devices hold, opened just now
pub record IsLoaded {D : Type 0} (tells : Bool) (meaning : D → Meaning) (old : Devices D) (limits : Limits) (book : BookView D) : Type 0 where
  pub as_before : AsBefore meaning old book.devices
  pub limits_are : limits_of book ≡ limits
  pub whole : AreWhole book.cache.index
  pub changes : List Step
  pub held : HeldSteps meaning old limits book.cache.index changes
  pub unbroken : broken_by changes ≡ None
  pub steps : HasOpened meaning book changes
  pub opened : book.opened ≡ (devices_line meaning book.devices).moment
  pub sure : IsTrue tells → AreSure meaning book.devices
  pub opens : IsTrue tells → EachImage (book_line meaning book) (λ im. OpensAs limits im book.cache)

-- the empty book, in a first journal file that was made just now; the second one isn't made
pub record IsCreated {D : Type 0} (tells : Bool) (meaning : D → Meaning) (old : Devices D) (limits : Limits) (book : BookView D) : Type 0 where
  pub creates : Creates meaning old limits book.devices
  pub index : book.cache.index ≡ empty_state limits
  pub cache : IsTrue tells → book.cache ≡ empty_cache limits
  pub fresh : IsTrue tells → IsNewPair meaning book.devices version
  pub steps : HasOpened meaning book []
  pub opened : book.opened ≡ (devices_line meaning book.devices).moment
  pub sure : IsTrue tells → AreSure meaning book.devices
  pub opens : IsTrue tells → EachImage (book_line meaning book) (λ im. OpensAs limits im book.cache)
