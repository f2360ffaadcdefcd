-- What holds of the files of every store: they open to at most one state, or have one fault.
use Rattle.std.specs.Prelude.{◌≡◌, ◌≢◌, List, ℕ}
use Rattle.ddc_disk.specs.Images.{Images}
use Rattle.ddc_model.specs.declared.rows.Limits.{Limits}
use Rattle.ddc_model.specs.declared.entry.Entry.{Entry}
use Rattle.ddc_model.specs.Sound.{Cache}
use Rattle.ddc_opening.specs.Opening.{HoldEntries, OpensAs, OpenFaultOf}
use Rattle.ddc_opening.specs.declared.fault.OpenFault.{OpenFault}
use Rattle.ddc_opening.specs.declared.fault.OpenFault.TheVariants.{NoMemory}

-- two files hold one list of entries
abbrev pub OneHolding : Type 0
OneHolding = (limits : Limits) (first second : List ℕ) (all others : List Entry) → HoldEntries limits first second all → HoldEntries limits first second others → all ≡ others

-- an image opens to one cache
abbrev pub OneOpening : Type 0
OneOpening = (limits : Limits) (im : Images) (cache other : Cache) → OpensAs limits im cache → OpensAs limits im other → cache ≡ other

-- what opens has no fault of content
abbrev pub OpensOrFails : Type 0
OpensOrFails = (limits : Limits) (im : Images) (cache : Cache) (fault : OpenFault) → OpensAs limits im cache → fault ≢ NoMemory → OpenFaultOf limits im.first im.second fault → ⊥

-- two files have one fault
abbrev pub OneOpenFault : Type 0
OneOpenFault = (limits : Limits) (first second : List ℕ) (fault other : OpenFault) → fault ≢ NoMemory → other ≢ NoMemory → OpenFaultOf limits first second fault → OpenFaultOf limits first second other → fault ≡ other
