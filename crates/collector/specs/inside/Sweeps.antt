-- A sweep list as far as a walk over the blobs has come.
use Rattle.std.specs.Prelude.{◌≡◌, ℕ, Bool, true, false, cond, List, [], ◌∷◌, ◌++◌, Option}
use Rattle.std.specs.List.{Contains}
use Rattle.std.specs.List.Sorted.{IsStrictlySortedBy}
use Rattle.std.specs.FinMap.{FinMap, get}
use Rattle.ddc_names.specs.declared.hash.IoHash.{IoHash}
use Rattle.ddc_names.specs.Orders.{io_hash_cmp}
use Rattle.ddc_model.specs.declared.rows.Blob.{Blob}
use Rattle.ddc_model.specs.Keys.{blob_cmp}
use Rattle.ddc_model.specs.State.{State, blob_name}
use Rattle.ddc_state.specs.NextKeys.{is_past, IsNextKey}
use Rattle.collector.specs.Marks.{Marks}
use Rattle.collector.specs.Sweeping.{is_loose}

-- the blob is the first of a namespace after a hash
abbrev pub IsNextBlob : FinMap blob_cmp Blob → List ℕ → Option IoHash → IoHash → Type 0
IsNextBlob blobs space after hash = IsNextKey io_hash_cmp (λ (h : IoHash). get blobs (blob_name space h)) after hash

-- the loose blobs up to a hash, in order
pub record AreSweptTo (s : State) (c : Marks) (last : Option IoHash) (hashes : List IoHash) : Type 0 where
  pub ascending : IsStrictlySortedBy io_hash_cmp hashes
  pub each : (hash : IoHash) → Contains hashes hash → (is_loose s c hash ≡ true) × (is_past io_hash_cmp last hash ≡ false)
  pub all : (hash : IoHash) → is_loose s c hash ≡ true → is_past io_hash_cmp last hash ≡ false → Contains hashes hash

-- the list, with a hash at its end where it is loose
abbrev pub with_loose : Bool → List IoHash → IoHash → List IoHash
with_loose loose hashes hash = cond loose (hashes ++ hash ∷ []) hashes
