-- What is found on the devices of a store that is opened, and what a crash leaves meanwhile.
use Rattle.std.specs.Prelude.{◌≡◌, ◌⊎◌, ℕ, ◌≤◌, Bool, IsTrue, List, map}
use Rattle.ddc_disk.specs.Disk.{Meaning, EachSince, IsImage, IsSure}
use Rattle.ddc_disk.specs.Images.{devices_line, devices_faults}
use Rattle.ddc_disk.specs.declared.devices.Devices.{Devices}
use Rattle.ddc_journal.specs.Pairs.{PairView, IfBoth, IsPairReady, NoneMade}
use Rattle.ddc_model.specs.declared.rows.Limits.{Limits}
use Rattle.ddc_model.specs.declared.entry.Entry.{Entry}
use Rattle.ddc_model.specs.declared.entry.Step.{Step}
use Rattle.ddc_model.specs.declared.entry.Step.TheVariants.{Change}
use Rattle.ddc_model.specs.State.{State, empty_state}
use Rattle.ddc_model.specs.Sound.{AreWhole, empty_cache}
use Rattle.ddc_opening.specs.Opening.{version, AreSpelled, AreLegal, after_all, HoldEntries, OpensAs}

-- nothing was written: the devices hold what they held, and a crash leaves what it could leave before
pub record AsBefore {D : Type 0} (meaning : D → Meaning) (old new : Devices D) : Type 0 where
  pub first : (meaning new.first).held ≡ (meaning old.first).held
  pub second : (meaning new.second).held ≡ (meaning old.second).held
  pub blobs : (meaning new.blobs).held ≡ (meaning old.blobs).held
  pub later : devices_faults meaning old ≤ devices_faults meaning new
  pub since : EachSince (devices_line meaning old) (devices_line meaning new) (IsImage (devices_line meaning old))

-- while an empty store is made where none was, a crash leaves what it could leave before, no store, or the empty store
pub record Creates {D : Type 0} (meaning : D → Meaning) (old : Devices D) (limits : Limits) (new : Devices D) : Type 0 where
  pub later : devices_faults meaning old ≤ devices_faults meaning new
  pub past : EachSince (devices_line meaning old) (devices_line meaning new) (λ _. Unit {0})
  pub each : IfBoth meaning old (λ first second. NoneMade first second
      → EachSince (devices_line meaning old) (devices_line meaning new) (λ im. IsImage (devices_line meaning old) im ⊎ NoneMade im.first im.second ⊎ OpensAs limits im (empty_cache limits)))

-- these are the changes of the entries that the two files held
abbrev pub HeldSteps : {D : Type 0} → (D → Meaning) → Devices D → Limits → State → List Step → Type 0
HeldSteps meaning devices limits s steps =
    IfBoth meaning devices (λ first second. (all : List Entry) × HoldEntries limits first second all × (steps ≡ map Change all) × (s ≡ after_all (empty_state limits) all))

-- the devices are sure: a crash leaves what they hold, which is a journal of a store's version and of these entries, and a
-- blob file
pub record IsReady {D : Type 0} (meaning : D → Meaning) (devices : Devices D) (pair : PairView) (all : List Entry) : Type 0 where
  pub version_is : pair.version ≡ version
  pub bodies : List (List ℕ)
  pub journal : IsPairReady meaning devices pair bodies
  pub spelled : AreSpelled bodies all
  pub file : List ℕ
  pub blobs_sure : IsSure (meaning devices.blobs) file

-- a store that was made or opened just now: entries that lead to its state are its steps, and where the devices tell what
-- they hold, they are ready with these
pub record IsOpenStore {D : Type 0} (tells : Bool) (meaning : D → Meaning) (devices : Devices D) (limits : Limits) (pair : PairView) (s : State) (steps : List Step) : Type 0 where
  pub all : List Entry
  pub ready : IsTrue tells → IsReady meaning devices pair all
  pub are_legal : AreLegal (empty_state limits) all
  pub state : s ≡ after_all (empty_state limits) all
  pub steps_are : steps ≡ map Change all
  pub whole : AreWhole s
