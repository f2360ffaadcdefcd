-- What the check and the reading say of some bytes.
use Rattle.std.specs.Prelude.{ℕ, List, Result, Ok, Err}
use Rattle.cb_fields.specs.declared.links.Link.{Link}
use Rattle.cb_fields.specs.declared.check.CbFault.{CbFault}
use Rattle.cb_fields.specs.declared.check.CbFault.TheVariants.{NotObject, NoMemory}
use Rattle.cb_fields.specs.Language.{IsObject, IsNoObject}
use Rattle.cb_fields.specs.Fault.{FaultAt}

abbrev pub ChecksAs : List ℕ → Result (Unit {0}) CbFault → Type 0
ChecksAs bytes (Ok u) = (links : List Link) × IsObject bytes links
ChecksAs bytes (Err (NotObject at)) = IsNoObject bytes × FaultAt bytes at
ChecksAs bytes (Err NoMemory) = Unit {0}

-- the links of an object, or where other bytes first break the rules
abbrev pub ReadsObject : List ℕ → Result (List Link) CbFault → Type 0
ReadsObject bytes (Ok links) = IsObject bytes links
ReadsObject bytes (Err (NotObject at)) = IsNoObject bytes × FaultAt bytes at
ReadsObject bytes (Err NoMemory) = Unit {0}
