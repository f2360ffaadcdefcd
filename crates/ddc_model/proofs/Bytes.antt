-- That each blob keeps its bytes, and what is known of them.
use Rattle.std.specs.Prelude.{◌≡◌, ℕ, List, [], ◌∷◌, Option, None, Some, is_some, IsSome, ◌⊎◌, max, refl, ⊤}
use Rattle.std.proofs.Common.{ap, sym, ◌∙◌, subst, inl, inr}
use Rattle.std.specs.FinMap.{FinMap, get, insert, remove}
use Rattle.ddc_names.specs.declared.hash.IoHash.{IoHash}
use Rattle.ddc_names.specs.declared.reference.RefName.{RefName}
use Rattle.ref_store.specs.declared.slot.Slot.{Slot}
use Rattle.ddc_model.specs.declared.rows.Blob.{Blob}
use Rattle.ddc_model.specs.declared.rows.BlobName.{BlobName}
use Rattle.ddc_model.specs.declared.entry.Stored.{Stored}
use Rattle.ddc_model.specs.declared.entry.Entry.{Entry}
use Rattle.ddc_model.specs.declared.entry.Entry.TheVariants.{Space, Upload, Repin, Put, Finalise, Delete, Touch, Expire, Swept, Cursor, BaseHour, BaseSlot, BaseEvent}
use Rattle.ddc_model.specs.Keys.{blob_cmp, blob_exact, blob_total}
use Rattle.ddc_model.specs.State.{State, blob_name, done_of}
use Rattle.ddc_model.specs.Entries.{after, blob_of, pinned, with_put_root, with_touch, without_hashes}
use Rattle.ddc_model.specs.Commands.{kept_where, kept}
use Rattle.ddc_model.proofs.Maps.{get_here, get_away, get_removed, get_left, same_or_not, same_some}
use Rattle.ddc_model.proofs.Events.{added_any, deleted_any, put_any}
use Rattle.ddc_model.proofs.Removals.{without_any}

-- the blob pinned from this hour on, where it is later
abbrev pub later : Blob → ℕ → Blob
later blob hour = record blob { row = record blob.row { at = max blob.row.at hour } }

-- each blob has bytes, of which this is known, and nothing else has
pub record Have (P : BlobName → Blob → List ℕ → Type 0) (blobs : FinMap blob_cmp Blob) (all : FinMap blob_cmp (List ℕ)) : Type 0 where
  pub each : (name : BlobName) (blob : Blob) → get blobs name ≡ Some blob → (bytes : List ℕ) × (get all name ≡ Some bytes) × P name blob bytes
  pub none_else : (name : BlobName) (bytes : List ℕ) → get all name ≡ Some bytes → IsSome (get blobs name)

module _ (P : BlobName → Blob → List ℕ → Type 0) (lasts : (name : BlobName) (blob : Blob) (bytes : List ℕ) (hour : ℕ) → P name blob bytes → P name (later blob hour) bytes) where
  -- this is known of the blob that is added
  abbrev AddsIn : List ℕ → Option Stored → ℕ → List ℕ → Type 0
  AddsIn space (Some blob) hour bytes = P (blob_name space blob.hash) (blob_of blob hour) bytes
  AddsIn space None hour bytes = ⊤

  abbrev pub Adds : Entry → List ℕ → Type 0
  Adds (Upload space hour blob) bytes = AddsIn space (Some blob) hour bytes
  Adds (Put name root fresh whole hour) bytes = AddsIn name.space fresh hour bytes
  Adds entry bytes = ⊤

  module _ (blobs : FinMap blob_cmp Blob) (all : FinMap blob_cmp (List ℕ)) (have : Have P blobs all) (name : BlobName) where
    added : (new : Blob) (bytes : List ℕ) → P name new bytes → Have P (insert blobs name new) (insert all name bytes)
    added new bytes known = record { each = each; none_else = none_else } where
      each : (other : BlobName) (blob : Blob) → get (insert blobs name new) other ≡ Some blob → (found : List ℕ) × (get (insert all name bytes) other ≡ Some found) × P other blob found
      each other blob there = split (same_or_not blob_total blob_exact other name) where
        split : (other ≡ name) ⊎ (other ≡ name → ⊥) → (found : List ℕ) × (get (insert all name bytes) other ≡ Some found) × P other blob found
        split (inl same) =
            let is : new ≡ blob = same_some new blob (sym (get_here blob_total blob_exact blobs name new) ∙ ap (get (insert blobs name new)) (sym same) ∙ there) in
            let of : P other new bytes = subst (λ (n : BlobName). P n new bytes) (sym same) known in
            (bytes, ap (get (insert all name bytes)) same ∙ get_here blob_total blob_exact all name bytes, subst (λ (b : Blob). P other b bytes) is of)
        split (inr differs) =
            let old = have.each other blob (sym (get_away blob_total blob_exact blobs name new other differs) ∙ there) in
            (old.0, get_away blob_total blob_exact all name bytes other differs ∙ old.1, old.2)

      none_else : (other : BlobName) (found : List ℕ) → get (insert all name bytes) other ≡ Some found → IsSome (get (insert blobs name new) other)
      none_else other found there = split (same_or_not blob_total blob_exact other name) where
        split : (other ≡ name) ⊎ (other ≡ name → ⊥) → IsSome (get (insert blobs name new) other)
        split (inl same) = ap (λ (n : BlobName). is_some (get (insert blobs name new) n)) same ∙ ap is_some (get_here blob_total blob_exact blobs name new)
        split (inr differs) =
            ap is_some (get_away blob_total blob_exact blobs name new other differs)
            ∙ have.none_else other found (sym (get_away blob_total blob_exact all name bytes other differs) ∙ there)

    repinned : (hour : ℕ) (old : Option Blob) → get blobs name ≡ old → Have P (pinned blobs name hour old) all
    repinned hour None is = have
    repinned hour (Some old) is = record { each = each; none_else = none_else } where
      each : (other : BlobName) (blob : Blob) → get (insert blobs name (later old hour)) other ≡ Some blob → (found : List ℕ) × (get all other ≡ Some found) × P other blob found
      each other blob there = split (same_or_not blob_total blob_exact other name) where
        split : (other ≡ name) ⊎ (other ≡ name → ⊥) → (found : List ℕ) × (get all other ≡ Some found) × P other blob found
        split (inl same) =
            let before = have.each other old (ap (get blobs) same ∙ is) in
            let made : later old hour ≡ blob = same_some (later old hour) blob (sym (get_here blob_total blob_exact blobs name (later old hour)) ∙ ap (get (insert blobs name (later old hour))) (sym same) ∙ there) in
            (before.0, before.1, subst (λ (b : Blob). P other b before.0) made (lasts other old before.0 hour before.2))
        split (inr differs) = have.each other blob (sym (get_away blob_total blob_exact blobs name (later old hour) other differs) ∙ there)

      none_else : (other : BlobName) (found : List ℕ) → get all other ≡ Some found → IsSome (get (insert blobs name (later old hour)) other)
      none_else other found there = split (same_or_not blob_total blob_exact other name) where
        split : (other ≡ name) ⊎ (other ≡ name → ⊥) → IsSome (get (insert blobs name (later old hour)) other)
        split (inl same) = ap (λ (n : BlobName). is_some (get (insert blobs name (later old hour)) n)) same ∙ ap is_some (get_here blob_total blob_exact blobs name (later old hour))
        split (inr differs) = ap is_some (get_away blob_total blob_exact blobs name (later old hour) other differs) ∙ have.none_else other found there

    taken : Have P (remove blobs name) (remove all name)
    taken = record { each = each; none_else = none_else } where
      no : {A : Type 0} {o : Option A} {x : A} → o ≡ None → o ≡ Some x → ⊥
      no e f = let g : None ≡ Some _ = sym e ∙ f in cc

      each : (other : BlobName) (blob : Blob) → get (remove blobs name) other ≡ Some blob → (found : List ℕ) × (get (remove all name) other ≡ Some found) × P other blob found
      each other blob there = split (same_or_not blob_total blob_exact other name) where
        split : (other ≡ name) ⊎ (other ≡ name → ⊥) → (found : List ℕ) × (get (remove all name) other ≡ Some found) × P other blob found
        split (inl same) = absurd (no (ap (get (remove blobs name)) same ∙ get_removed blob_total blob_exact blobs name) there)
        split (inr differs) =
            let old = have.each other blob (sym (get_left blob_total blob_exact blobs name other differs) ∙ there) in
            (old.0, get_left blob_total blob_exact all name other differs ∙ old.1, old.2)

      none_else : (other : BlobName) (found : List ℕ) → get (remove all name) other ≡ Some found → IsSome (get (remove blobs name) other)
      none_else other found there = split (same_or_not blob_total blob_exact other name) where
        split : (other ≡ name) ⊎ (other ≡ name → ⊥) → IsSome (get (remove blobs name) other)
        split (inl same) = absurd (no (ap (get (remove all name)) same ∙ get_removed blob_total blob_exact all name) there)
        split (inr differs) =
            ap is_some (get_left blob_total blob_exact blobs name other differs)
            ∙ have.none_else other found (sym (get_left blob_total blob_exact all name other differs) ∙ there)

  all_taken : (blobs : FinMap blob_cmp Blob) (all : FinMap blob_cmp (List ℕ)) (space : List ℕ) (hashes : List IoHash) → Have P blobs all → Have P (without_hashes blobs space hashes) (without_hashes all space hashes)
  all_taken blobs all space [] have = have
  all_taken blobs all space (hash ∷ hashes) have = all_taken (remove blobs (blob_name space hash)) (remove all (blob_name space hash)) space hashes (taken blobs all have (blob_name space hash))

  root_kept : (s : State) (all : FinMap blob_cmp (List ℕ)) → Have P s.blobs all → (space : List ℕ) (root : IoHash) (fresh : Option Stored) (hour : ℕ) (bytes : List ℕ) → AddsIn space fresh hour bytes
      → Have P (with_put_root s space root fresh hour).blobs (kept_where all space fresh bytes)
  root_kept s all have space root None hour bytes adds = repinned s.blobs all have (blob_name space root) hour (get s.blobs (blob_name space root)) refl
  root_kept s all have space root (Some blob) hour bytes adds = added s.blobs all have (blob_name space blob.hash) (blob_of blob hour) bytes adds

  touch_kept : (s : State) (all : FinMap blob_cmp (List ℕ)) → Have P s.blobs all → (name : RefName) (hour : ℕ) (found : Option Slot) → Have P (with_touch s name hour found).blobs all
  touch_kept s all have name hour None = have
  touch_kept s all have name hour (Some slot) = have

  -- an entry keeps that each blob has bytes of which this is known
  pub stay : (s : State) (all : FinMap blob_cmp (List ℕ)) (entry : Entry) (bytes : List ℕ) → Have P s.blobs all → Adds entry bytes → Have P (after s entry).blobs (kept all entry bytes)
  stay s all (Space space ttl pin) bytes have adds = have
  stay s all (Upload space hour blob) bytes have adds = added s.blobs all have (blob_name space blob.hash) (blob_of blob hour) bytes adds
  stay s all (Repin space hash hour) bytes have adds = repinned s.blobs all have (blob_name space hash) hour (get s.blobs (blob_name space hash)) refl
  stay s all (Put name root fresh whole hour) bytes have adds =
      put_any (λ (t : State). Have P t.blobs (kept_where all name.space fresh bytes)) (with_put_root s name.space root fresh hour) (λ logs. root_kept s all have name.space root fresh hour bytes adds) name root whole
  stay s all (Finalise name hash hour) bytes have adds = added_any (λ (t : State). Have P t.blobs all) s (λ logs. have) name (done_of (get s.slots name)) hash
  stay s all (Delete name hour) bytes have adds = deleted_any (λ (t : State). Have P t.blobs all) (record s { slots = remove s.slots name }) (λ logs. have) name (done_of (get s.slots name))
  stay s all (Touch name hour) bytes have adds = touch_kept s all have name hour (get s.slots name)
  stay s all (Expire space spots hour) bytes have adds = without_any (λ (t : State). Have P t.blobs all) s space spots (λ slots logs. have)
  stay s all (Swept space hashes) bytes have adds = all_taken s.blobs all space hashes have
  stay s all (Cursor space cursor) bytes have adds = have
  stay s all (BaseHour hour) bytes have adds = have
  stay s all (BaseSlot name finalised pending seen) bytes have adds = have
  stay s all (BaseEvent name number op) bytes have adds = have
