-- What is claimed of the blob file: the units that the blobs have.
use Rattle.std.specs.Prelude.{◌≡◌, ℕ, ◌≤◌, ◌<◌, ◌^◌, ◌↔◌, Some}
use Rattle.std.specs.FinMap.{FinMap, get}
use Rattle.ddc_model.specs.declared.rows.Blob.{Blob}
use Rattle.ddc_model.specs.declared.rows.BlobName.{BlobName}
use Rattle.ddc_model.specs.declared.rows.Limits.{Limits}
use Rattle.ddc_model.specs.Keys.{blob_cmp}
use Rattle.ddc_model.specs.Extents.{extent, ArePlaced}
use Rattle.blob_store.specs.Claims.{Claims, IsClaim}

-- a blob has so many units from this one on
abbrev pub HasExtent : FinMap blob_cmp Blob → ℕ → ℕ → Type 0
HasExtent blobs start units = (name : BlobName) × (blob : Blob) × (get blobs name ≡ Some blob) × (blob.row.extent ≡ extent start units)

-- the blobs are placed, and the claimed extents of a file of so many units are those of the blobs that have units
pub record AreClaims (claims : Claims) (limit : ℕ) (blobs : FinMap blob_cmp Blob) : Type 0 where
  pub placed : ArePlaced limit blobs
  pub low : limit ≤ 2 ^ 51
  pub file : claims.units ≡ limit
  pub exactly : (start units : ℕ) → IsClaim claims start units ↔ ((0 < units) × HasExtent blobs start units)

-- the same of an index within these limits, under which a log keeps an event at least
pub record IsIndexed (claims : Claims) (limits : Limits) (blobs : FinMap blob_cmp Blob) : Type 0 where
  pub kept : 1 ≤ limits.kept
  pub claimed : AreClaims claims limits.units blobs
