-- What the parts of the top call do.
use Rattle.std.specs.Prelude.{◌≡◌, ◌≢◌, ◌⊎◌, ℕ, ◌≤◌, Bool, true, false, IsTrue, List, Option, None, Some, String}
use Rattle.std.specs.declared.alloc.Global.{Global}
use Rattle.ddc_disk.specs.Disk.{Meaning, EachImage, EachSince}
use Rattle.ddc_disk.specs.Images.{devices_faults, devices_line}
use Rattle.ddc_disk.specs.declared.devices.Devices.{Devices}
use Rattle.ddc_model.specs.declared.entry.Step.{Step}
use Rattle.ddc_model.specs.Limits.{standard}
use Rattle.ddc_model.specs.History.{broken_by}
use Rattle.ddc_opening.specs.declared.fault.OpenFault.{OpenFault}
use Rattle.ddc_opening.specs.declared.fault.OpenFault.TheVariants.{NotMade}
use Rattle.ddc_book.specs.Calls.{OpensWhole}
use Rattle.ddc_book.specs.Loading.{HasOpened}
use Rattle.ddc_book.specs.View.{BookView, limits_of, book_line, book_faults, Reaches}
use Rattle.ddc_service.specs.Effects.{Effect, Bytes, IsUntouched}
use Rattle.ddc_command.specs.declared.command.Command.{Command}
use Rattle.ddc_command.specs.declared.command.Command.TheVariants.{Init}
use Rattle.ddc_command.specs.declared.end.CommandEnd.{CommandEnd}
use Rattle.ddc_command.specs.Words.{command_of}
use Rattle.ddc_command.specs.Notes.{status_of}
use Rattle.ddc_command.specs.Ends.{Scene, scene, Ends, HoldStore, HoldNone, IsEmptyUnmade}

-- what this command does, whatever words ask for it
abbrev pub EndsFor : {D : Type 0} → Scene D → Command → CommandEnd → Type 0
EndsFor s command end = (words : List (String Global)) → command_of words ≡ Some command → Ends s words end

-- what `init` does, whatever words ask for it, and whatever the clock and the source are
abbrev pub EndsInit : {D : Type 0} → Bool → (D → Meaning) → Devices D → Devices D → Effect Bytes → List ℕ → ℕ → ℕ → CommandEnd → Type 0
EndsInit tells meaning old new sink space ttl pin end =
    (words : List (String Global)) (hour : Option ℕ) (source : Effect Bytes) → IsUntouched source → command_of words ≡ Some (Init space ttl pin) → Ends (scene tells meaning old new hour source sink) words end

abbrev pub is_unmade : OpenFault → Bool
is_unmade NotMade = true
is_unmade other = false

-- nothing was done to a sink
abbrev pub untouched : Bytes → ℕ → Effect Bytes
untouched bytes faults = record { before = bytes; after = bytes; faults_before = faults; faults_after = faults }

-- why there is no store in which `init` makes a namespace
pub record FailsToOpen {D : Type 0} (tells : Bool) (meaning : D → Meaning) (old new : Devices D) (end : CommandEnd) : Type 0 where
  pub ends : (bytes : Bytes) (faults : ℕ) (space : List ℕ) (ttl pin : ℕ) → EndsInit tells meaning old new (untouched bytes faults) space ttl pin end
  pub not_usage : status_of end ≢ 1

-- a book that was opened just now, of the store that the devices held, or of an empty one where they held none
pub record OpensOrMakes {D : Type 0} (tells : Bool) (meaning : D → Meaning) (old : Devices D) (book : BookView D) : Type 0 where
  pub held : HoldStore tells meaning old book.cache ⊎ HoldNone tells meaning old book.cache
  pub limits_are : limits_of book ≡ standard
  pub changes : List Step
  pub steps : HasOpened meaning book changes
  pub unbroken : broken_by changes ≡ None
  pub later : devices_faults meaning old ≤ book_faults meaning book
  pub any_moment : IsTrue tells × EachImage (devices_line meaning old) (λ im. OpensWhole standard im book.cache ⊎ IsEmptyUnmade book.cache im)
      → EachSince (devices_line meaning old) (book_line meaning book) (λ im. OpensWhole standard im book.cache ⊎ IsEmptyUnmade book.cache im)
  pub reaches : IsTrue tells × EachImage (devices_line meaning old) (λ im. OpensWhole standard im book.cache ⊎ IsEmptyUnmade book.cache im) → Reaches meaning book
