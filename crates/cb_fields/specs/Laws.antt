-- What holds of the definitions.
use Rattle.std.specs.Prelude.{◌≡◌, ℕ, ◌≤◌, ◌<◌, ◌^◌, ◌⊎◌, List, [], length}
use Rattle.ddc_names.specs.declared.hash.IoHash.{IoHash}
use Rattle.cb_fields.specs.declared.links.Link.{Link}
use Rattle.cb_fields.specs.Language.{IsObject, IsNoObject}
use Rattle.cb_fields.specs.Fault.{FaultAt}
use Rattle.cb_fields.specs.Needs.{AreHashes, needs_object}

-- any bytes are an object or have a first fault
abbrev pub ObjectOrFault : Type 0
ObjectOrFault = (bytes : List ℕ) → ((links : List Link) × IsObject bytes links) ⊎ ((at : ℕ) × FaultAt bytes at)

-- and not both
abbrev pub FaultIsNoObject : Type 0
FaultIsNoObject = (bytes : List ℕ) (at : ℕ) → FaultAt bytes at → IsNoObject bytes

-- an object has one list of links
abbrev pub OneObject : Type 0
OneObject = (bytes : List ℕ) (links others : List Link) → IsObject bytes links → IsObject bytes others → links ≡ others

-- the first fault has one place
abbrev pub OneFaultPlace : Type 0
OneFaultPlace = (bytes : List ℕ) (at other : ℕ) → FaultAt bytes at → FaultAt bytes other → at ≡ other

-- and lies in the bytes or at their end
abbrev pub FaultLiesWithin : Type 0
FaultLiesWithin = (bytes : List ℕ) (at : ℕ) → FaultAt bytes at → at ≤ length bytes

-- what is written for needs is an object without links
abbrev pub NeedsIsObject : Type 0
NeedsIsObject = (hashes : List IoHash) → AreHashes hashes → length (needs_object hashes) < 2 ^ 64 → IsObject (needs_object hashes) []

-- and tells the hashes in their order
abbrev pub NeedsTellsHashes : Type 0
NeedsTellsHashes = (hashes others : List IoHash) → AreHashes hashes → AreHashes others → length (needs_object hashes) < 2 ^ 64 → length (needs_object others) < 2 ^ 64
    → needs_object hashes ≡ needs_object others → hashes ≡ others
