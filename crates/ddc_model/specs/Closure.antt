-- What an object reaches over its attachments, and what of that is missing.
use Rattle.std.specs.Prelude.{◌≡◌, ℕ, zero, suc, Bool, List, Option, None, Some, IsTrue, ◌↔◌, option_map, if◌then◌else◌}
use Rattle.std.specs.List.{Contains, list_any}
use Rattle.std.specs.BTreeMap.{is_at}
use Rattle.std.specs.List.Sorted.{IsStrictlySortedBy}
use Rattle.ddc_names.specs.declared.hash.IoHash.{IoHash}
use Rattle.ddc_names.specs.Orders.{io_hash_cmp}
use Rattle.cb_fields.specs.declared.links.Link.{Link}
use Rattle.cb_fields.specs.declared.links.LinkKind.{LinkKind}
use Rattle.cb_fields.specs.declared.links.LinkKind.TheVariants.{Object}
use Rattle.ddc_model.specs.State.{State, blob_at}

-- the links of each blob that is there
abbrev pub Links : Type 0
Links = IoHash → Option (List Link)

-- the links of the blobs of a namespace
abbrev pub links_in : State → List ℕ → Links
links_in s space hash = option_map (λ blob. blob.links) (blob_at s space hash)

-- the same with a blob of this hash, which has these links
abbrev pub with_links : Links → IoHash → List Link → Links
with_links links hash found other = if is_at (io_hash_cmp hash) other then Some found else links other

abbrev pub object : IoHash → Link
object hash = record { kind = Object; hash = hash }

-- the node is an object that is there, and the other is one of its attachments
abbrev pub LeadsTo : Links → Link → Link → Type 0
LeadsTo links node other = (node.kind ≡ Object) × (found : List Link) × (links node.hash ≡ Some found) × Contains found other

-- so many steps lead from a node to another
abbrev pub LeadsToIn : Links → Link → Link → ℕ → Type 0
LeadsToIn links a b zero = a ≡ b
LeadsToIn links a b (suc n) = (node : Link) × LeadsToIn links a node n × LeadsTo links node b

-- the node is in the closure of the object
abbrev pub IsReached : Links → IoHash → Link → Type 0
IsReached links root node = (n : ℕ) × LeadsToIn links (object root) node n

-- the hash is in the closure, and no blob of it is there
abbrev pub IsMissing : Links → IoHash → IoHash → Type 0
IsMissing links root hash = (links hash ≡ None) × (kind : LinkKind) × IsReached links root (record { kind = kind; hash = hash })

-- whether a list has a hash
abbrev pub has_hash : List IoHash → IoHash → Bool
has_hash hashes hash = list_any (is_at (io_hash_cmp hash)) hashes

-- the ascending list of the hashes that are missing of an object's closure
pub record AreNeeds (links : Links) (root : IoHash) (needs : List IoHash) : Type 0 where
  pub ascending : IsStrictlySortedBy io_hash_cmp needs
  pub exactly : (hash : IoHash) → IsTrue (has_hash needs hash) ↔ IsMissing links root hash

-- nothing of an object's closure is missing
abbrev pub IsWhole : Links → IoHash → Type 0
IsWhole links root = (hash : IoHash) → IsMissing links root hash → ⊥
