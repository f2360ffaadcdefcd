-- Why a store that can't be opened ends a command.
use Rattle.std.proofs.Common.{◌≡◌, ◌≢◌, Option, Some, None, refl, inl, inr, sym, ◌∙◌}
use Rattle.std.specs.Prelude.{◌⊎◌}
use Rattle.ddc_disk.specs.Disk.{Meaning}
use Rattle.ddc_disk.specs.declared.devices.Devices.{Devices}
use Rattle.ddc_journal.specs.Pairs.{IfBoth, NoneMade}
use Rattle.ddc_journal.specs.Laws.{NotMadeIsNone}
use Rattle.ddc_model.specs.Limits.{standard}
use Rattle.ddc_opening.specs.Opening.{version, OpenFaultOf}
use Rattle.ddc_opening.specs.declared.fault.OpenFault.{OpenFault}
use Rattle.ddc_opening.specs.declared.fault.OpenFault.TheVariants.{NotMade, Corrupt, BadVersion, Unsound, DiskFailed, NoMemory}
use Rattle.ddc_opening.proofs.Both.{if_both, at_both}
use Rattle.ddc_command.specs.declared.command.Command.{Command}
use Rattle.ddc_command.specs.declared.command.Command.TheVariants.{Replay}
use Rattle.ddc_command.specs.Ends.{Scene, BothHeld, DevicesRose, Unopens}

-- the taken file isn't made exactly where none is
pub none_held : NotMadeIsNone → {D : Type 0} (meaning : D → Meaning) (devices : Devices D) → IfBoth meaning devices (λ first second. OpenFaultOf standard first second NotMade) → IfBoth meaning devices NoneMade
none_held not_made meaning devices held =
    if_both meaning devices NoneMade (λ a b is_a is_b. (not_made version a b).0 (at_both meaning devices (λ first second. OpenFaultOf standard first second NotMade) a b is_a is_b held))

pub unopens : NotMadeIsNone → {D : Type 0} (s : Scene D) (command : Option Command) (fault : OpenFault)
    → ((fault ≡ DiskFailed) × DevicesRose s) ⊎ BothHeld s (λ first second. OpenFaultOf standard first second fault)
    → (fault ≡ DiskFailed → DevicesRose s) → (fault ≡ NotMade → command ≡ Some Replay) → Unopens s command fault
unopens not_made s command NotMade (inl (e, rose)) cause asked = cc e
unopens not_made s command NotMade (inr h) cause asked = (none_held not_made s.meaning s.old h, asked refl)
unopens not_made s command (Corrupt which at) (inl (e, rose)) cause asked = cc e
unopens not_made s command (Corrupt which at) (inr h) cause asked = h
unopens not_made s command (BadVersion found) (inl (e, rose)) cause asked = cc e
unopens not_made s command (BadVersion found) (inr h) cause asked = h
unopens not_made s command (Unsound name) (inl (e, rose)) cause asked = cc e
unopens not_made s command (Unsound name) (inr h) cause asked = h
unopens not_made s command DiskFailed h cause asked = cause refl
unopens not_made s command NoMemory h cause asked = tt

pub some_command : (found : Option Command) (command : Command) → found ≡ Some command → found ≢ None
some_command found command some none = let e : Some command ≡ None = sym some ∙ none in cc e
