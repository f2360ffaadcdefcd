-- The extent of a fresh blob is claimed with the blob, and released with it.
use Rattle.std.specs.Prelude.{◌≡◌, ℕ, true, false, not, ◌&&◌, nat_le, List, length, Option, None, Some, is_some, option_map, refl}
use Rattle.std.proofs.Common.{ap, sym, ◌∙◌, subst}
use Rattle.std.proofs.lemmas.Bool.{and_parts, not-true}
use Rattle.std.specs.FinMap.{FinMap, get, insert, remove}
use Rattle.ddc_model.specs.declared.rows.Blob.{Blob}
use Rattle.ddc_model.specs.declared.rows.BlobName.{BlobName}
use Rattle.ddc_model.specs.declared.rows.BlobRow.{BlobRow}
use Rattle.ddc_model.specs.declared.entry.Stored.{Stored}
use Rattle.ddc_model.specs.Keys.{blob_cmp, blob_exact, blob_total}
use Rattle.ddc_model.specs.Limits.{most_bytes, most_links}
use Rattle.ddc_model.specs.State.{State, blob_name, blob_at, has_blob}
use Rattle.ddc_model.specs.Extents.{is_free}
use Rattle.ddc_model.specs.Entries.{blob_of, extent_of, is_fresh}
use Rattle.ddc_model.proofs.Maps.{same_some}
use Rattle.ddc_model.proofs.Placed.{added_placed}
use Rattle.blob_store.specs.Claims.{Claims, IsClaimed, IsFree, with_extent, without_extent}
use Rattle.ddc_state.specs.inside.Claimed.{AreClaims}
use Rattle.ddc_state.proofs.Given.{none_removed}
use Rattle.ddc_state.proofs.FreeUnits.{free_of, blob_claimed}
use Rattle.ddc_state.proofs.Claiming.{claim_undone, added_claims, removed_claims}

-- ---- a fresh blob

no_blob : (o : Option Blob) → is_some o ≡ false → o ≡ None
no_blob None is = refl
no_blob (Some blob) is = absurd (cc)

module _ (claims : Claims) (s : State) (are : AreClaims claims s.limits.units s.blobs) (space : List ℕ) (blob : Stored) (hour : ℕ) (kept : Blob) (fresh : is_fresh s space blob ≡ true) (is : kept ≡ blob_of blob hour) where
  parts : ((not (has_blob s space blob.hash) && nat_le blob.len most_bytes && nat_le (length blob.links) most_links) ≡ true) × (is_free s (extent_of blob) ≡ true)
  parts = and_parts (not (has_blob s space blob.hash) && nat_le blob.len most_bytes && nat_le (length blob.links) most_links) (is_free s (extent_of blob)) fresh

  absent : blob_at s space blob.hash ≡ None
  absent =
      no_blob (blob_at s space blob.hash)
      (not-true (has_blob s space blob.hash)
      (and_parts (not (has_blob s space blob.hash)) (nat_le blob.len most_bytes) (and_parts (not (has_blob s space blob.hash) && nat_le blob.len most_bytes) (nat_le (length blob.links) most_links) parts.0).0).0)

  free : IsFree claims (extent_of blob)
  free = free_of claims s are (extent_of blob) parts.1

  pub fresh_free : IsFree claims kept.row.extent
  fresh_free = subst (λ (b : Blob). IsFree claims b.row.extent) (sym is) free

  pub fresh_added : (new : Claims) (blobs : FinMap blob_cmp Blob) → new ≡ with_extent claims kept.row.extent → blobs ≡ insert s.blobs (blob_name space blob.hash) kept → AreClaims new s.limits.units blobs
  fresh_added new blobs claimed set =
      subst (λ (c : Claims). AreClaims c s.limits.units blobs) (sym claimed)
      (subst (λ (m : FinMap blob_cmp Blob). AreClaims (with_extent claims kept.row.extent) s.limits.units m) (sym set)
      (subst (λ (b : Blob). AreClaims (with_extent claims b.row.extent) s.limits.units (insert s.blobs (blob_name space blob.hash) b)) (sym is)
      (added_claims claims s.limits.units s.blobs are (blob_name space blob.hash) (blob_of blob hour) absent free (added_placed s space blob hour fresh are.placed))))

  -- where the blob is refused its claim is given back
  pub fresh_refused : (one new : Claims) (blobs : FinMap blob_cmp Blob) → one ≡ with_extent claims kept.row.extent → new ≡ without_extent one kept.row.extent → blobs ≡ s.blobs → AreClaims new s.limits.units blobs
  fresh_refused one new blobs claimed released same =
      subst (λ (c : Claims). AreClaims c s.limits.units blobs)
      (claim_undone claims s.limits.units s.blobs are kept.row.extent fresh_free ∙ ap (λ (c : Claims). without_extent c kept.row.extent) (sym claimed) ∙ sym released)
      (subst (λ (m : FinMap blob_cmp Blob). AreClaims claims s.limits.units m) (sym same) are)

-- ---- a blob that is taken out, by the row that was kept of it

row_there : (o : Option Blob) (row : BlobRow) → Some row ≡ option_map (λ (blob : Blob). blob.row) o → (blob : Blob) × (o ≡ Some blob) × (blob.row ≡ row)
row_there None row is = absurd (cc)
row_there (Some blob) row is = (blob, refl, sym (same_some row blob.row is))

no_row : (o : Option Blob) → None ≡ option_map (λ (blob : Blob). blob.row) o → None ≡ o
no_row None is = refl
no_row (Some blob) is = absurd (cc)

module _ (claims : Claims) (limit : ℕ) (blobs : FinMap blob_cmp Blob) (are : AreClaims claims limit blobs) (name : BlobName) where
  pub row_claimed : (row : BlobRow) → Some row ≡ option_map (λ (blob : Blob). blob.row) (get blobs name) → IsClaimed claims row.extent
  row_claimed row is =
      let there = row_there (get blobs name) row is in
      subst (λ (r : BlobRow). IsClaimed claims r.extent) there.2 (blob_claimed claims limit blobs are name there.0 there.1)

  pub row_released : (row : BlobRow) (new : Claims) (left : FinMap blob_cmp Blob) → Some row ≡ option_map (λ (blob : Blob). blob.row) (get blobs name) → new ≡ without_extent claims row.extent → left ≡ remove blobs name → AreClaims new limit left
  row_released row new left is released gone =
      let there = row_there (get blobs name) row is in
      subst (λ (c : Claims). AreClaims c limit left) (sym released)
      (subst (λ (m : FinMap blob_cmp Blob). AreClaims (without_extent claims row.extent) limit m) (sym gone)
      (subst (λ (r : BlobRow). AreClaims (without_extent claims r.extent) limit (remove blobs name)) there.2 (removed_claims claims limit blobs are name there.0 there.1)))

  pub nothing_released : (left : FinMap blob_cmp Blob) → None ≡ option_map (λ (blob : Blob). blob.row) (get blobs name) → left ≡ remove blobs name → AreClaims claims limit left
  nothing_released left is gone =
      subst (λ (m : FinMap blob_cmp Blob). AreClaims claims limit m) (none_removed blob_cmp blob_total blob_exact blobs name (no_row (get blobs name) is) ∙ sym gone) are
