-- What the steps at the start of a collection change.
use Rattle.std.specs.Prelude.{◌≡◌, ℕ, ◌+◌, ◌<◌, true, false, ◌&&◌, not, List, Option, None, Some, slice_index_or, ◌⊎◌}
use Rattle.std.specs.List.{Contains}
use Rattle.std.specs.FinMap.{get}
use Rattle.ddc_names.specs.declared.hash.IoHash.{IoHash}
use Rattle.ddc_names.specs.declared.reference.RefName.{RefName}
use Rattle.ddc_names.specs.Orders.{io_hash_cmp}
use Rattle.cb_fields.specs.declared.links.Link.{Link}
use Rattle.cb_fields.specs.declared.links.LinkKind.TheVariants.{Binary}
use Rattle.ref_store.specs.declared.slot.Slot.{Slot}
use Rattle.ref_store.specs.Nexts.{is_behind}
use Rattle.ddc_model.specs.declared.rows.Blob.{Blob}
use Rattle.ddc_model.specs.declared.rows.SpaceRow.{SpaceRow}
use Rattle.ddc_model.specs.State.{State, blob_at, has_blob}
use Rattle.ddc_model.specs.Closure.{object}
use Rattle.ddc_state.specs.NextKeys.{is_past}
use Rattle.collector.specs.Marks.{Marks, number_in, knows, is_marked, is_grey}
use Rattle.collector.specs.Roots.{IsRootNode}
use Rattle.collector.specs.inside.Steps.{GreyMore}

-- nothing is marked or grey, and nothing else changed but what is known
pub record IsWhite (old new : Marks) : Type 0 where
  pub space : new.space ≡ old.space
  pub hour : new.hour ≡ old.hour
  pub marked : (node : Link) → is_marked new node ≡ false
  pub grey : (node : Link) → is_grey new node ≡ false
  pub ended : new.ended ≡ old.ended

-- the blobs that are there up to a hash are known, and their nodes are white
pub record AreKnownTo (s : State) (old : Marks) (last : Option IoHash) (new : Marks) : Type 0 where
  pub white : IsWhite old new
  pub known : (hash : IoHash) → knows new hash ≡ (has_blob s old.space hash && not (is_past io_hash_cmp last hash))

-- all blobs that are there are
pub record AreKnown (s : State) (old new : Marks) : Type 0 where
  pub white : IsWhite old new
  pub known : (hash : IoHash) → knows new hash ≡ has_blob s old.space hash

-- of the nodes that are known some roots are grey, whatever is leased
abbrev pub GreyRoots : State → Marks → Marks → Type 0
GreyRoots s old new = (leased : List IoHash) → GreyMore (IsRootNode s old.space leased old.hour) old new

-- the object of a hash, where there is one, is grey if it is known, and no other node becomes grey
pub record IsObjectGrey (old : Marks) (hash : Option IoHash) (new : Marks) : Type 0 where
  pub more : GreyMore (λ node. (h : IoHash) × (hash ≡ Some h) × (node ≡ object h)) old new
  pub all : (h : IoHash) → hash ≡ Some h → knows old h ≡ true → is_grey new (object h) ≡ true

-- the blob is there and still pinned
abbrev pub IsPinnedBlob : State → List ℕ → ℕ → IoHash → Type 0
IsPinnedBlob s space hour hash = (row : SpaceRow) × (blob : Blob) × (get s.spaces space ≡ Some row) × (blob_at s space hash ≡ Some blob) × (hour < blob.row.at + row.pin)

-- the pinned blobs that are known by a number below this one are grey
abbrev pub ArePinnedGreyTo : State → Marks → ℕ → Marks → Type 0
ArePinnedGreyTo s old count new = (hash : IoHash) (number : ℕ) → IsPinnedBlob s old.space old.hour hash → number_in old.hashes hash ≡ Some number → number < count → is_grey new (object hash) ≡ true

-- all pinned blobs that are known are grey
abbrev pub ArePinnedGrey : State → Marks → Marks → Type 0
ArePinnedGrey s old new = (hash : IoHash) → IsPinnedBlob s old.space old.hour hash → knows old hash ≡ true → is_grey new (object hash) ≡ true

-- the finalised or the pending object of a reference
abbrev pub IsObjectOf : Slot → IoHash → Type 0
IsObjectOf slot hash = (slot.done ≡ Some hash) ⊎ (slot.pending ≡ Some hash)

-- the objects of a reference are grey if they are known and it is of the namespace, and no other node becomes grey
pub record IsSlotGrey (old : Marks) (name : RefName) (slot : Slot) (new : Marks) : Type 0 where
  pub more : GreyMore (λ node. (name.space ≡ old.space) × (hash : IoHash) × (node ≡ object hash) × IsObjectOf slot hash) old new
  pub all : (hash : IoHash) → name.space ≡ old.space → IsObjectOf slot hash → knows old hash ≡ true → is_grey new (object hash) ≡ true

-- the objects of the references of the namespace up to a name that are known are grey
abbrev pub AreSlotsGreyTo : State → Marks → Option RefName → Marks → Type 0
AreSlotsGreyTo s old last new = (name : RefName) (slot : Slot) (hash : IoHash) → is_behind last name ≡ false → name.space ≡ old.space → get s.slots name ≡ Some slot → IsObjectOf slot hash → knows old hash ≡ true → is_grey new (object hash) ≡ true

-- those of all references are
abbrev pub AreSlotsGrey : State → Marks → Marks → Type 0
AreSlotsGrey s old new = (name : RefName) (slot : Slot) (hash : IoHash) → name.space ≡ old.space → get s.slots name ≡ Some slot → IsObjectOf slot hash → knows old hash ≡ true → is_grey new (object hash) ≡ true

-- the first so many leased blobs that are known are grey, as binaries, and no other node becomes grey
pub record AreLeasedGreyTo (leased : List IoHash) (count : ℕ) (old new : Marks) : Type 0 where
  pub more : GreyMore (λ node. (hash : IoHash) × (node ≡ record { kind = Binary; hash = hash }) × Contains leased hash) old new
  pub all : (k : ℕ) (d : IoHash) → k < count → knows old (slice_index_or leased k d) ≡ true → is_grey new (record { kind = Binary; hash = slice_index_or leased k d }) ≡ true

-- a hash, where its blob is there and still pinned, and none where it isn't
abbrev pub PinnedHash : State → List ℕ → ℕ → IoHash → Option IoHash → Type 0
PinnedHash s space hour hash (Some found) = (found ≡ hash) × IsPinnedBlob s space hour hash
PinnedHash s space hour hash None = IsPinnedBlob s space hour hash → ⊥
