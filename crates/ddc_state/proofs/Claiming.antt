-- The claimed extents stay those of the blobs where a blob is added, pinned or taken out.
use Rattle.std.specs.Prelude.{◌≡◌, ℕ, ◌≤◌, ◌<◌, ◌^◌, Bool, true, false, cond, ◌⊎◌, Option, None, Some, nat_eq, refl}
use Rattle.std.proofs.Common.{ap, sym, ◌∙◌, subst, inl, inr, arith}
use Rattle.std.proofs.lemmas.Cmp.{nat_cmp_total}
use Rattle.std.specs.Ordering.{nat_cmp}
use Rattle.std.specs.FinMap.{FinMap, empty, get, insert, remove, get-empty, nat_cmp-IsAntisymmetric}
use Rattle.ddc_model.specs.declared.rows.Blob.{Blob}
use Rattle.ddc_model.specs.declared.rows.BlobName.{BlobName}
use Rattle.ddc_model.specs.declared.rows.Extent.{Extent}
use Rattle.ddc_model.specs.Keys.{blob_cmp, blob_exact, blob_total}
use Rattle.ddc_model.specs.Extents.{extent, Apart, ArePlaced}
use Rattle.ddc_model.specs.Entries.{pinned}
use Rattle.ddc_model.proofs.Maps.{get_here, get_away, get_left, same_or_not, same_some}
use Rattle.ddc_model.proofs.Bytes.{later}
use Rattle.ddc_model.proofs.Placed.{none_placed, pinned_placed, removed_placed, still_there}
use Rattle.blob_store.specs.Claims.{Claims, IsClaim, IsFree, no_claims, with_extent, without_extent}
use Rattle.ddc_state.specs.inside.Claimed.{HasExtent, AreClaims}
use Rattle.ddc_state.proofs.Given.{put_undone}
use Rattle.ddc_state.proofs.Claims.{positive, no_value, begin_apart, now_claimed, still_claimed, claim_more, claim_less, claim_left}

abbrev Blobs : Type 0
Blobs = FinMap blob_cmp Blob

abbrev with_map : ℕ → FinMap nat_cmp ℕ → Claims
with_map units extents = record { units = units; extents = extents }

module _ (claims : Claims) (limit : ℕ) (blobs : Blobs) (are : AreClaims claims limit blobs) where
  -- an extent that is claimed and released leaves the claims as they were
  pub claim_undone : (e : Extent) → IsFree claims e → claims ≡ without_extent (with_extent claims e) e
  claim_undone e free = sym (ap (with_map claims.units) (split (nat_eq e.units 0) refl)) where
    unclaimed : (o : Option ℕ) → 0 < e.units → get claims.extents e.start ≡ o → o ≡ None
    unclaimed None some is = refl
    unclaimed (Some n) some is = absurd (begin_apart e (extent e.start n) some ((are.exactly e.start n).0 is).0 (free.apart e.start n is) refl)

    split : (t : Bool) → nat_eq e.units 0 ≡ t → cond t (cond t claims.extents (insert claims.extents e.start e.units)) (remove (cond t claims.extents (insert claims.extents e.start e.units)) e.start) ≡ claims.extents
    split true is = refl
    split false is = put_undone nat_cmp nat_cmp_total nat_cmp-IsAntisymmetric claims.extents e.start e.units (unclaimed (get claims.extents e.start) (positive e.units is) refl)

  -- a blob is added whose extent was claimed
  module _ (name : BlobName) (new : Blob) (absent : get blobs name ≡ None) (free : IsFree claims new.row.extent) where
    differs : (other : BlobName) (blob : Blob) → get blobs other ≡ Some blob → other ≡ name → ⊥
    differs other blob there same = no_value (ap (get blobs) same ∙ absent) there

    to_blob : (start units : ℕ) → IsClaim claims start units ⊎ ((0 < units) × (new.row.extent ≡ extent start units)) → (0 < units) × HasExtent (insert blobs name new) start units
    to_blob start units (inl is) =
        let owner = (are.exactly start units).0 is in
        (owner.0, (owner.1.0, owner.1.1, get_away blob_total blob_exact blobs name new owner.1.0 (differs owner.1.0 owner.1.1 owner.1.2) ∙ owner.1.2, owner.1.3))
    to_blob start units (inr is) = (is.0, (name, new, get_here blob_total blob_exact blobs name new, is.1))

    to_claim : (start units : ℕ) → 0 < units → (other : BlobName) (blob : Blob) → get (insert blobs name new) other ≡ Some blob → blob.row.extent ≡ extent start units → (other ≡ name) ⊎ (other ≡ name → ⊥) → IsClaim (with_extent claims new.row.extent) start units
    to_claim start units some other blob there is (inl same) =
        let blob_is : new ≡ blob = same_some new blob (sym (get_here blob_total blob_exact blobs name new) ∙ ap (get (insert blobs name new)) (sym same) ∙ there) in
        let extent_is : new.row.extent ≡ extent start units = ap (λ (b : Blob). b.row.extent) blob_is ∙ is in
        let as_many : new.row.extent.units ≡ units = ap (λ (x : Extent). x.units) extent_is in
        subst (λ (x : Extent). IsClaim (with_extent claims new.row.extent) x.start x.units) extent_is (now_claimed claims new.row.extent (omega (arith, as_many, some)))
    to_claim start units some other blob there is (inr away) =
        still_claimed claims new.row.extent start units free some ((are.exactly start units).1 (some, (other, blob, sym (get_away blob_total blob_exact blobs name new other away) ∙ there, is)))

    pub added_claims : ArePlaced limit (insert blobs name new) → AreClaims (with_extent claims new.row.extent) limit (insert blobs name new)
    added_claims placed = record {
      placed = placed;
      low = are.low;
      file = are.file;
      exactly = λ start units. (
        λ is. to_blob start units (claim_more claims new.row.extent start units is),
        λ has. to_claim start units has.0 has.1.0 has.1.1 has.1.2 has.1.3 (same_or_not blob_total blob_exact has.1.0 name),
      );
    }

  -- a blob is taken out, and its extent released
  pub removed_claims : (name : BlobName) (old : Blob) → get blobs name ≡ Some old → AreClaims (without_extent claims old.row.extent) limit (remove blobs name)
  removed_claims name old was = record {
    placed = removed_placed limit blobs name are.placed;
    low = are.low;
    file = are.file;
    exactly = λ start units. (to_blob start units, λ has. to_claim start units has.0 has.1.0 has.1.1 has.1.2 has.1.3);
  } where
    owned : (start units : ℕ) → IsClaim claims start units → (old.row.extent ≡ extent start units → ⊥) → HasExtent (remove blobs name) start units
    owned start units is other_one =
        let owner = ((are.exactly start units).0 is).1 in
        let differs : owner.0 ≡ name → ⊥ = λ same.
        let blob_is : old ≡ owner.1 = same_some old owner.1 (sym was ∙ ap (get blobs) (sym same) ∙ owner.2) in
        other_one (ap (λ (b : Blob). b.row.extent) blob_is ∙ owner.3) in
        (owner.0, owner.1, get_left blob_total blob_exact blobs name owner.0 differs ∙ owner.2, owner.3)

    to_blob : (start units : ℕ) → IsClaim (without_extent claims old.row.extent) start units → (0 < units) × HasExtent (remove blobs name) start units
    to_blob start units is =
        let was_claimed = claim_less claims old.row.extent start units is in
        let some = ((are.exactly start units).0 was_claimed.0).0 in
        (some, owned start units was_claimed.0 (was_claimed.1 some))

    to_claim : (start units : ℕ) → 0 < units → (other : BlobName) (blob : Blob) → get (remove blobs name) other ≡ Some blob → blob.row.extent ≡ extent start units → IsClaim (without_extent claims old.row.extent) start units
    to_claim start units some other blob there is =
        let was_there = still_there blobs name other blob there in
        claim_left claims old.row.extent start units some ((are.exactly start units).1 (some, (other, blob, was_there.0, is)))
        (subst (Apart old.row.extent) is (are.placed.apart name other old blob (λ same. was_there.1 (sym same)) was was_there.0))

  -- a pinned blob keeps its extent
  pub pinned_claims : (name : BlobName) (hour : ℕ) (found : Option Blob) → get blobs name ≡ found → AreClaims claims limit (pinned blobs name hour found)
  pinned_claims name hour None was = are
  pinned_claims name hour (Some old) was = record {
    placed = pinned_placed limit blobs are.placed name hour (Some old) was;
    low = are.low;
    file = are.file;
    exactly = λ start units. (
      λ is. let owner = (are.exactly start units).0 is in (owner.0, stays start units owner.1.0 owner.1.1 owner.1.2 owner.1.3 (same_or_not blob_total blob_exact owner.1.0 name)),
      λ has. (are.exactly start units).1 (has.0, was_so start units has.1.0 has.1.1 has.1.2 has.1.3 (same_or_not blob_total blob_exact has.1.0 name)),
    );
  } where
    stays : (start units : ℕ) (other : BlobName) (blob : Blob) → get blobs other ≡ Some blob → blob.row.extent ≡ extent start units → (other ≡ name) ⊎ (other ≡ name → ⊥) → HasExtent (insert blobs name (later old hour)) start units
    stays start units other blob there is (inl same) =
        let blob_is : old ≡ blob = same_some old blob (sym was ∙ ap (get blobs) (sym same) ∙ there) in
        (name, later old hour, get_here blob_total blob_exact blobs name (later old hour), ap (λ (b : Blob). b.row.extent) blob_is ∙ is)
    stays start units other blob there is (inr away) = (other, blob, get_away blob_total blob_exact blobs name (later old hour) other away ∙ there, is)

    was_so : (start units : ℕ) (other : BlobName) (blob : Blob) → get (insert blobs name (later old hour)) other ≡ Some blob → blob.row.extent ≡ extent start units → (other ≡ name) ⊎ (other ≡ name → ⊥) → HasExtent blobs start units
    was_so start units other blob there is (inl same) =
        let blob_is : later old hour ≡ blob = same_some (later old hour) blob (sym (get_here blob_total blob_exact blobs name (later old hour)) ∙ ap (get (insert blobs name (later old hour))) (sym same) ∙ there) in
        (name, old, was, ap (λ (b : Blob). b.row.extent) blob_is ∙ is)
    was_so start units other blob there is (inr away) = (other, blob, sym (get_away blob_total blob_exact blobs name (later old hour) other away) ∙ there, is)

-- a file of which nothing is claimed, for no blobs
pub nothing_claimed : (limit : ℕ) → limit ≤ 2 ^ 51 → AreClaims (no_claims limit) limit empty
nothing_claimed limit low = record {
  placed = none_placed limit;
  low = low;
  file = refl;
  exactly = λ start units. (
    λ is. absurd (no_value (get-empty nat_cmp start) is),
    λ has. absurd (no_value (get-empty blob_cmp has.1.0) has.1.2),
  );
}
