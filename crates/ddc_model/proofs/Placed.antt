-- That the blobs of a store keep apart in the blob file, and which runs are free.
use Rattle.std.specs.Prelude.{◌≡◌, ℕ, zero, suc, ◌+◌, ◌≤◌, Bool, true, false, ◌&&◌, not, List, [], ◌∷◌, length, Option, None, Some, nat_le, nat_eq, ◌⊎◌, if◌then◌else◌, refl}
use Rattle.std.proofs.Common.{ap, sym, ◌∙◌, subst, inl, inr}
use Rattle.std.proofs.lemmas.Bool.{and_parts, eqb-true, leb-true}
use Rattle.std.specs.FinMap.{FinMap, empty, get, insert, remove, get-empty}
use Rattle.ddc_names.specs.declared.hash.IoHash.{IoHash}
use Rattle.ddc_names.specs.declared.reference.RefName.{RefName}
use Rattle.ref_store.specs.declared.slot.Slot.{Slot}
use Rattle.ddc_model.specs.declared.rows.Blob.{Blob}
use Rattle.ddc_model.specs.declared.rows.BlobName.{BlobName}
use Rattle.ddc_model.specs.declared.entry.Stored.{Stored}
use Rattle.ddc_model.specs.declared.entry.Entry.{Entry}
use Rattle.ddc_model.specs.declared.entry.Entry.TheVariants.{Space, Upload, Repin, Put, Finalise, Delete, Touch, Expire, Swept, Cursor, BaseHour, BaseSlot, BaseEvent}
use Rattle.ddc_model.specs.Keys.{blob_cmp, blob_exact, blob_total}
use Rattle.ddc_model.specs.Limits.{most_bytes, most_links}
use Rattle.ddc_model.specs.State.{State, blob_name, done_of, has_blob, has_space}
use Rattle.ddc_model.specs.Extents.{units_of, Apart, is_free, first_that, ArePlaced, IsPlaced}
use Rattle.ddc_model.specs.ExtentLaws.{swapped, free_within, free_apart}
use Rattle.ddc_model.specs.Entries.{blob_of, extent_of, fits_state, has_room_for_events, is_fresh, is_root, legal, pinned, same_hash, with_blob, with_pin, with_put_root, with_touch, without_blob, without_blobs}
use Rattle.ddc_model.specs.Laws.{EmptyIsPlaced, LegalStaysPlaced}
use Rattle.ddc_model.proofs.Maps.{get_here, get_away, get_removed, get_left, same_or_not, same_some}
use Rattle.ddc_model.proofs.Events.{added_any, deleted_any, put_any}
use Rattle.ddc_model.proofs.Removals.{without_any}
use Rattle.ddc_model.proofs.Bytes.{later}

pub is_zero : (n : ℕ) → nat_eq n 0 ≡ true → n ≡ 0
is_zero n h = eqb-true n 0 h

-- what is found passes the test
pub passes_test : (test : ℕ → Bool) (from n found : ℕ) → first_that test from n ≡ Some found → test found ≡ true
passes_test test from zero found is = absurd (cc)
passes_test test from (suc n) found is = split (passes_test test (from + 1) n found) (test from) refl where
  split : (first_that test (from + 1) n ≡ Some found → test found ≡ true) → (t : Bool) → test from ≡ t → test found ≡ true
  split rest true e =
      let here : Some from ≡ Some found = sym (ap (λ (t : Bool). if t then Some from else first_that test (from + 1) n) e) ∙ is in
      subst (λ (k : ℕ). test k ≡ true) (same_some from found here) e
  split rest false e = rest (sym (ap (λ (t : Bool). if t then Some from else first_that test (from + 1) n) e) ∙ is)

-- ---- some blobs

no_blob : {o : Option Blob} {blob : Blob} → o ≡ None → o ≡ Some blob → ⊥
no_blob e f = let g : None ≡ Some _ = sym e ∙ f in cc

pub none_placed : (limit : ℕ) → ArePlaced limit empty
none_placed limit = record {
  short = λ name blob there. absurd (no_blob (get-empty blob_cmp name) there);
  units = λ name blob there. absurd (no_blob (get-empty blob_cmp name) there);
  within = λ name blob there. absurd (no_blob (get-empty blob_cmp name) there);
  apart = λ name other blob found differ there found_there. absurd (no_blob (get-empty blob_cmp name) there);
}

-- a blob is set whose place is its own
module _ (limit : ℕ) (blobs : FinMap blob_cmp Blob) (placed : ArePlaced limit blobs) (name : BlobName) (new : Blob) (short : new.row.len ≤ most_bytes) (units : new.row.extent.units ≡ units_of new.row.len)
    (within : new.row.extent.start + new.row.extent.units ≤ limit)
    (alone : (other : BlobName) (blob : Blob) → ¬ (other ≡ name) → get blobs other ≡ Some blob → Apart blob.row.extent new.row.extent) where
  is_new : (other : BlobName) (blob : Blob) → other ≡ name → get (insert blobs name new) other ≡ Some blob → new ≡ blob
  is_new other blob same there = same_some new blob (sym (get_here blob_total blob_exact blobs name new) ∙ ap (get (insert blobs name new)) (sym same) ∙ there)

  was : (other : BlobName) (blob : Blob) → ¬ (other ≡ name) → get (insert blobs name new) other ≡ Some blob → get blobs other ≡ Some blob
  was other blob differs there = sym (get_away blob_total blob_exact blobs name new other differs) ∙ there

  each : (P : Blob → Type 0) → P new → ((other : BlobName) (blob : Blob) → get blobs other ≡ Some blob → P blob) → (other : BlobName) (blob : Blob) → get (insert blobs name new) other ≡ Some blob → P blob
  each P here away other blob there = split (same_or_not blob_total blob_exact other name) where
    split : (other ≡ name) ⊎ (other ≡ name → ⊥) → P blob
    split (inl same) = subst P (is_new other blob same there) here
    split (inr differs) = away other blob (was other blob differs there)

  both_apart : (one other : BlobName) (blob found : Blob) → ¬ (one ≡ other) → get (insert blobs name new) one ≡ Some blob → get (insert blobs name new) other ≡ Some found → Apart blob.row.extent found.row.extent
  both_apart one other blob found differ there found_there = split (same_or_not blob_total blob_exact one name) (same_or_not blob_total blob_exact other name) where
    split : (one ≡ name) ⊎ (one ≡ name → ⊥) → (other ≡ name) ⊎ (other ≡ name → ⊥) → Apart blob.row.extent found.row.extent
    split (inl a) (inl b) = absurd (differ (a ∙ sym b))
    split (inl a) (inr b) =
        subst (λ (x : Blob). Apart x.row.extent found.row.extent) (is_new one blob a there)
        (swapped found.row.extent new.row.extent (alone other found b (was other found b found_there)))
    split (inr a) (inl b) = subst (λ (x : Blob). Apart blob.row.extent x.row.extent) (is_new other found b found_there) (alone one blob a (was one blob a there))
    split (inr a) (inr b) = placed.apart one other blob found differ (was one blob a there) (was other found b found_there)

  pub set_placed : ArePlaced limit (insert blobs name new)
  set_placed = record {
    short = each (λ (b : Blob). b.row.len ≤ most_bytes) short placed.short;
    units = each (λ (b : Blob). b.row.extent.units ≡ units_of b.row.len) units placed.units;
    within = each (λ (b : Blob). b.row.extent.start + b.row.extent.units ≤ limit) within placed.within;
    apart = both_apart;
  }

-- a blob stays that another is not, where this one is taken out
pub still_there : (blobs : FinMap blob_cmp Blob) (name other : BlobName) (blob : Blob) → get (remove blobs name) other ≡ Some blob → (get blobs other ≡ Some blob) × ¬ (other ≡ name)
still_there blobs name other blob there = split (same_or_not blob_total blob_exact other name) where
  split : (other ≡ name) ⊎ (other ≡ name → ⊥) → (get blobs other ≡ Some blob) × ¬ (other ≡ name)
  split (inl same) = absurd (no_blob (ap (get (remove blobs name)) same ∙ get_removed blob_total blob_exact blobs name) there)
  split (inr differs) = (sym (get_left blob_total blob_exact blobs name other differs) ∙ there, differs)

pub removed_placed : (limit : ℕ) (blobs : FinMap blob_cmp Blob) (name : BlobName) → ArePlaced limit blobs → ArePlaced limit (remove blobs name)
removed_placed limit blobs name placed = record {
  short = λ other blob there. placed.short other blob (still_there blobs name other blob there).0;
  units = λ other blob there. placed.units other blob (still_there blobs name other blob there).0;
  within = λ other blob there. placed.within other blob (still_there blobs name other blob there).0;
  apart = λ one other blob found differ there found_there. placed.apart one other blob found differ (still_there blobs name one blob there).0 (still_there blobs name other found found_there).0;
}

-- ---- the blobs of a state

pub empty_placed : EmptyIsPlaced
empty_placed limits = none_placed limits.units

-- a fresh blob of a legal entry
pub added_placed : (s : State) (space : List ℕ) (blob : Stored) (hour : ℕ) → is_fresh s space blob ≡ true → IsPlaced s → IsPlaced (with_blob s space blob hour)
added_placed s space blob hour fresh placed =
    set_placed s.limits.units s.blobs placed (blob_name space blob.hash) (blob_of blob hour) few refl (free_within s (extent_of blob) free) (λ other found differs there. free_apart s (extent_of blob) other found free there) where
      parts : ((not (has_blob s space blob.hash) && nat_le blob.len most_bytes && nat_le (length blob.links) most_links) ≡ true) × (is_free s (extent_of blob) ≡ true)
      parts = and_parts (not (has_blob s space blob.hash) && nat_le blob.len most_bytes && nat_le (length blob.links) most_links) (is_free s (extent_of blob)) fresh

      free : is_free s (extent_of blob) ≡ true
      free = parts.1

      few : blob.len ≤ most_bytes
      few =
          leb-true blob.len most_bytes
          (and_parts (not (has_blob s space blob.hash)) (nat_le blob.len most_bytes) (and_parts (not (has_blob s space blob.hash) && nat_le blob.len most_bytes) (nat_le (length blob.links) most_links) parts.0).0).1

pub pinned_placed : (limit : ℕ) (blobs : FinMap blob_cmp Blob) → ArePlaced limit blobs → (name : BlobName) (hour : ℕ) (found : Option Blob) → get blobs name ≡ found → ArePlaced limit (pinned blobs name hour found)
pinned_placed limit blobs placed name hour None is = placed
pinned_placed limit blobs placed name hour (Some old) is =
    set_placed limit blobs placed name (later old hour) (placed.short name old is) (placed.units name old is) (placed.within name old is) (λ other blob differs there. placed.apart other name blob old differs there is)

pub pin_placed : (s : State) (space : List ℕ) (hash : IoHash) (hour : ℕ) → IsPlaced s → IsPlaced (with_pin s space hash hour)
pin_placed s space hash hour placed = pinned_placed s.limits.units s.blobs placed (blob_name space hash) hour (get s.blobs (blob_name space hash)) refl

root_placed : (s : State) (space : List ℕ) (root : IoHash) (fresh : Option Stored) (hour : ℕ) → is_root s space root fresh ≡ true → IsPlaced s → IsPlaced (with_put_root s space root fresh hour)
root_placed s space root None hour is placed = pin_placed s space root hour placed
root_placed s space root (Some blob) hour is placed = added_placed s space blob hour (and_parts (same_hash blob.hash root) (is_fresh s space blob) is).1 placed

touch_placed : (s : State) (name : RefName) (hour : ℕ) (found : Option Slot) → IsPlaced s → IsPlaced (with_touch s name hour found)
touch_placed s name hour None placed = placed
touch_placed s name hour (Some slot) placed = placed

swept_placed : (s : State) (space : List ℕ) (hashes : List IoHash) → IsPlaced s → IsPlaced (without_blobs s space hashes)
swept_placed s space [] placed = placed
swept_placed s space (hash ∷ hashes) placed = swept_placed (without_blob s space hash) space hashes (removed_placed s.limits.units s.blobs (blob_name space hash) placed)

-- a legal entry fits the state
pub fits : (s : State) (entry : Entry) → legal s entry ≡ true → fits_state s entry ≡ true
fits s entry is = (and_parts (has_room_for_events s entry) (fits_state s entry) is).1

pub legal_placed : LegalStaysPlaced
legal_placed s (Space space ttl pin) placed is = placed
legal_placed s (Upload space hour blob) placed is = added_placed s space blob hour (and_parts (has_space s space) (is_fresh s space blob) is).1 placed
legal_placed s (Repin space hash hour) placed is = pin_placed s space hash hour placed
legal_placed s (Put name root fresh whole hour) placed is =
    put_any IsPlaced (with_put_root s name.space root fresh hour)
    (λ logs. root_placed s name.space root fresh hour (and_parts (has_space s name.space) (is_root s name.space root fresh) (fits s (Put name root fresh whole hour) is)).1 placed) name root whole
legal_placed s (Finalise name hash hour) placed is = added_any IsPlaced s (λ logs. placed) name (done_of (get s.slots name)) hash
legal_placed s (Delete name hour) placed is = deleted_any IsPlaced (record s { slots = remove s.slots name }) (λ logs. placed) name (done_of (get s.slots name))
legal_placed s (Touch name hour) placed is = touch_placed s name hour (get s.slots name) placed
legal_placed s (Expire space spots hour) placed is = without_any IsPlaced s space spots (λ slots logs. placed)
legal_placed s (Swept space hashes) placed is = swept_placed s space hashes placed
legal_placed s (Cursor space cursor) placed is = placed
legal_placed s (BaseHour hour) placed is = placed
legal_placed s (BaseSlot name finalised pending seen) placed is = placed
legal_placed s (BaseEvent name number op) placed is = placed
