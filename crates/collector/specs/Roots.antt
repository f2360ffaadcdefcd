-- From where a collection starts.
use Rattle.std.specs.Prelude.{◌≡◌, ℕ, ◌+◌, ◌<◌, List, Some}
use Rattle.std.specs.List.{Contains}
use Rattle.std.specs.FinMap.{get}
use Rattle.ddc_names.specs.declared.hash.IoHash.{IoHash}
use Rattle.ddc_names.specs.declared.reference.RefName.{RefName}
use Rattle.cb_fields.specs.declared.links.Link.{Link}
use Rattle.cb_fields.specs.declared.links.LinkKind.TheVariants.{Binary}
use Rattle.ref_store.specs.declared.slot.Slot.{Slot}
use Rattle.ddc_model.specs.declared.rows.Blob.{Blob}
use Rattle.ddc_model.specs.declared.rows.SpaceRow.{SpaceRow}
use Rattle.ddc_model.specs.State.{State, blob_at}
use Rattle.ddc_model.specs.Closure.{object}

-- the node is a root of a namespace at an hour: the finalised or the pending object of a reference, a blob that is
-- still pinned, as an object, or a leased blob, as a binary
pub data IsRootNode (s : State) (space : List ℕ) (leased : List IoHash) (hour : ℕ) : Link → Type 0 where
  done_root : (name : RefName) (slot : Slot) (hash : IoHash) → name.space ≡ space → get s.slots name ≡ Some slot → slot.done ≡ Some hash → IsRootNode s space leased hour (object hash)
  pending_root : (name : RefName) (slot : Slot) (hash : IoHash) → name.space ≡ space → get s.slots name ≡ Some slot → slot.pending ≡ Some hash → IsRootNode s space leased hour (object hash)
  pinned_root : (row : SpaceRow) (blob : Blob) (hash : IoHash) → get s.spaces space ≡ Some row → blob_at s space hash ≡ Some blob → hour < blob.row.at + row.pin → IsRootNode s space leased hour (object hash)
  leased_root : (hash : IoHash) → Contains leased hash → IsRootNode s space leased hour (record { kind = Binary; hash = hash })
