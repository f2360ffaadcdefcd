-- When a state and the bytes of its blobs are sound.
use Rattle.std.specs.Prelude.{◌≡◌, ℕ, Bool, List, length, Option, None, Some, IfSome, IsSome}
use Rattle.std.specs.FinMap.{FinMap, get, empty}
use Rattle.std.specs.declared.cmp.Ordering.TheVariants.{Less}
use Rattle.ddc_names.specs.declared.hash.IoHash.{IoHash}
use Rattle.ddc_names.specs.declared.reference.RefName.{RefName}
use Rattle.ddc_names.specs.Orders.{ref_name_cmp}
use Rattle.ref_store.specs.declared.slot.Slot.{Slot}
use Rattle.ddc_model.specs.declared.rows.Blob.{Blob}
use Rattle.ddc_model.specs.declared.rows.BlobName.{BlobName}
use Rattle.ddc_model.specs.declared.rows.Limits.{Limits}
use Rattle.ddc_model.specs.Keys.{blob_cmp}
use Rattle.ddc_model.specs.State.{State, empty_state}
use Rattle.ddc_model.specs.Content.{AreLinksOf, content_hash}
use Rattle.ddc_model.specs.Closure.{links_in, IsWhole}

-- a state, and the bytes of each blob, where the devices tell what they hold
pub record Cache : Type 0 where
  pub index : State
  pub bytes : Option (FinMap blob_cmp (List ℕ))

-- of nothing
abbrev pub empty_cache : Limits → Cache
empty_cache limits = record { index = empty_state limits; bytes = Some empty }

-- the devices tell these bytes of a blob, if they tell any
abbrev pub Tells : Cache → BlobName → List ℕ → Type 0
Tells cache name bytes = IfSome cache.bytes (λ all. get all name ≡ Some bytes)

-- the blob's bytes have the hash that names it, and its length and links are theirs
pub record IsBlobOf (name : BlobName) (blob : Blob) (bytes : List ℕ) : Type 0 where
  pub hash : name.hash ≡ content_hash bytes
  pub length_is : blob.row.len ≡ length bytes
  pub is_object : Bool
  pub links : AreLinksOf bytes is_object blob.links

-- of each finalised object the whole closure is there
abbrev pub AreWhole : State → Type 0
AreWhole s = (name : RefName) (slot : Slot) (hash : IoHash) → get s.slots name ≡ Some slot → slot.done ≡ Some hash → IsWhole (links_in s name.space) hash

-- the first reference, by name, that is finalised while a blob of its closure isn't there
pub record IsFirstUnsound (s : State) (name : RefName) : Type 0 where
  pub slot : Slot
  pub hash : IoHash
  pub there : get s.slots name ≡ Some slot
  pub done : slot.done ≡ Some hash
  pub lacks : IsWhole (links_in s name.space) hash → ⊥
  pub first : (other : RefName) (slot : Slot) (hash : IoHash) → ref_name_cmp other name ≡ Less → get s.slots other ≡ Some slot → slot.done ≡ Some hash → IsWhole (links_in s other.space) hash

-- the first such, and none where there is none
abbrev pub FirstUnsound : State → Option RefName → Type 0
FirstUnsound s (Some name) = IsFirstUnsound s name
FirstUnsound s None = AreWhole s

-- each blob has its bytes, and nothing else has; and of each finalised object the whole closure is there
pub record IsSound (cache : Cache) : Type 0 where
  pub all : FinMap blob_cmp (List ℕ)
  pub told : cache.bytes ≡ Some all
  pub blobs : (name : BlobName) (blob : Blob) → get cache.index.blobs name ≡ Some blob → (bytes : List ℕ) × (get all name ≡ Some bytes) × IsBlobOf name blob bytes
  pub none_else : (name : BlobName) (bytes : List ℕ) → get all name ≡ Some bytes → IsSome (get cache.index.blobs name)
  pub whole : AreWhole cache.index
