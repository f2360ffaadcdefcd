-- What the definitions say together. The first of them are contracts of the functions in laws.rt.
use Rattle.std.specs.Prelude.{◌≡◌, ℕ, ◌≤◌, List, [], ◌++◌, length, take, Option, Some}
use Rattle.cb_fields.specs.declared.links.Link.{Link}
use Rattle.cb_fields.specs.Varuint.{IsVaruint, varuint_at}
use Rattle.cb_fields.specs.Language.{Field, Spells, IsObject, HasLinks}
use Rattle.cb_fields.specs.Fault.{HasHeader, FaultAt}
use Rattle.cb_fields.specs.Laws.{ObjectOrFault, FaultIsNoObject, OneObject, OneFaultPlace, FaultLiesWithin, NeedsIsObject, NeedsTellsHashes}
use Rattle.cb_fields.proofs.Front.{varuint_read}
use Rattle.cb_fields.proofs.Found.{varuint_found}
use Rattle.cb_fields.proofs.Unique.{has_header}
use Rattle.cb_fields.proofs.Agree.{decided, object_once, fault_no_object, fault_once, fault_in_bytes, object_links, fault_links, links_once}
use Rattle.cb_fields.proofs.Written.{needs_are_object}
use Rattle.cb_fields.proofs.Told.{needs_told}

-- a number is read where a spelling of it stands at the front, whatever follows
pub spelled_is_read : (n : ℕ) (w others : List ℕ) → IsVaruint n w → varuint_at (w ++ others) ≡ Some (n, length w)
spelled_is_read = varuint_read

-- what is read is spelled by the bytes at the front
pub read_is_spelled : (bytes : List ℕ) (found : ℕ × ℕ) → varuint_at bytes ≡ Some found → (found.1 ≤ length bytes) × IsVaruint found.0 (take found.1 bytes)
read_is_spelled = varuint_found

-- any bytes are an object or have a first fault
pub object_or_fault : ObjectOrFault
object_or_fault = decided

-- and not both
pub fault_is_no_object : FaultIsNoObject
fault_is_no_object = fault_no_object

-- an object has one list of links
pub one_object : OneObject
one_object = object_once

-- the first fault has one place
pub one_fault : OneFaultPlace
one_fault = fault_once

-- and lies in the bytes or at their end
pub fault_lies_within : FaultLiesWithin
fault_lies_within = fault_in_bytes

-- a refused header has no continuation: where a field begins, its own header stands, whatever follows the field
pub field_has_header : {type_byte : Option ℕ} {field : List ℕ} {links : List Link} → Spells (Field type_byte) field links → (others : List ℕ) → HasHeader type_byte (field ++ others)
field_has_header s others = has_header s others

-- an object has its links, other bytes have none, and any bytes have one list
pub object_has_links : (bytes : List ℕ) (links : List Link) → IsObject bytes links → HasLinks bytes links
object_has_links = object_links

pub fault_has_no_links : (bytes : List ℕ) (at : ℕ) → FaultAt bytes at → HasLinks bytes []
fault_has_no_links = fault_links

pub one_list_of_links : (bytes : List ℕ) (rows others : List Link) → HasLinks bytes rows → HasLinks bytes others → rows ≡ others
one_list_of_links = links_once

-- what is written for needs is an object without links
pub needs_is_object : NeedsIsObject
needs_is_object = needs_are_object

-- and tells the hashes in their order
pub needs_tells_hashes : NeedsTellsHashes
needs_tells_hashes = needs_told
