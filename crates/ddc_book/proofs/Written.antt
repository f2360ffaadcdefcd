-- What the blob file gives once the blob of an entry was written.
use Rattle.std.specs.Prelude.{◌≡◌, ◌⊎◌, ℕ, ◌+◌, ◌-◌, ◌*◌, ◌^◌, ◌≤◌, ◌<◌, true, not, ◌&&◌, nat_le, List, [], ◌∷◌, ◌++◌, length, take, drop, replicate, slice_index, Option, None, Some, IfSome, IsSome, option_map, refl}
use Rattle.std.proofs.Common.{ap, sym, ◌∙◌, subst, inl, inr, ⊎_elim, arith, length-append}
use Rattle.std.proofs.lemmas.Bool.{cases_lt, and_parts, leb-true}
use Rattle.std.proofs.lemmas.List.{length-take, length-replicate, get_or-take, get_or-drop, get_or_append_left, get_or-append_right, get_or-replicate, get_or_past}
use Rattle.std.proofs.lemmas.List.FromFn.{length-map-range_with_len, get_or-map-range_with_len}
use Rattle.std.specs.FinMap.{get}
use Rattle.ddc_disk.specs.Disk.{overwritten}
use Rattle.ddc_disk.specs.Since.{torn_written}
use Rattle.ddc_model.specs.declared.rows.Blob.{Blob}
use Rattle.ddc_model.specs.declared.rows.BlobName.{BlobName}
use Rattle.ddc_model.specs.declared.rows.Extent.{Extent}
use Rattle.ddc_model.specs.declared.entry.Stored.{Stored}
use Rattle.ddc_model.specs.declared.entry.Entry.{Entry}
use Rattle.ddc_model.specs.declared.entry.Entry.TheVariants.{Space, Upload, Repin, Put, Finalise, Delete, Touch, Expire, Swept, Cursor, BaseHour, BaseSlot, BaseEvent}
use Rattle.ddc_model.specs.Limits.{most_bytes, most_links}
use Rattle.ddc_model.specs.State.{State, has_blob, has_space}
use Rattle.ddc_model.specs.Extents.{units_of, Apart, is_free, IsPlaced}
use Rattle.ddc_model.specs.Entries.{after, extent_of, is_fresh, legal, same_hash}
use Rattle.ddc_model.specs.Counts.{fresh_of}
use Rattle.ddc_model.specs.Commands.{kept}
use Rattle.ddc_model.proofs.Maps.{same_some}
use Rattle.ddc_model.proofs.Bytes.{later, Adds, Have, stay}
use Rattle.ddc_model.proofs.Placed.{fits}
use Rattle.ddc_model.specs.ExtentLaws.{free_apart, free_within}
use Rattle.blob_store.specs.Bytes.{first_byte, LieIn, bytes_from, HasPlace}
use Rattle.blob_store.specs.BytesLaws.{bytes_by_index, other_extent, written_has}
use Rattle.ddc_opening.specs.Opening.{bytes_at, bytes_in, AllReach}
use Rattle.ddc_book.specs.inside.Making.{bytes_or_none, Brings, StartsLow, place_of, with_bytes}
use Rattle.ddc_opening.specs.BytesIn.{get_bytes, bytes_added}

-- ---- pieces of two files

-- files that have the same bytes at each place of a piece give the same piece
pub same_piece : (file other : List ℕ) (at n : ℕ) → ((k : ℕ) → k < n → slice_index file (at + k) ≡ slice_index other (at + k)) → bytes_from file at n ≡ bytes_from other at n
same_piece file other at n same =
    bytes_by_index other (bytes_from file at n) at (λ k l.
    let below : k < n = omega (arith, l, length-map-range_with_len (slice_index file) at n) in
    get_or-map-range_with_len (slice_index file) at n k (at + k) 0 below refl ∙ same k below)
    ∙ ap (bytes_from other at) (length-map-range_with_len (slice_index file) at n)

-- a write leaves what stands before and after it
pub overwritten_outside : (file : List ℕ) (at : ℕ) (bytes : List ℕ) (place : ℕ) → (place < at) ⊎ (at + length bytes ≤ place) → slice_index (overwritten file at bytes) place ≡ slice_index file place
overwritten_outside file at bytes place where_is = ⊎_elim before after where_is where
  gap : List ℕ
  gap = replicate {A = ℕ} (at - length file) 0

  tail : List ℕ
  tail = drop (at + length bytes) file

  front : length (take at file ++ replicate {A = ℕ} (at - length file) 0) ≡ at
  front = omega (arith, length-append (take at file) (replicate {A = ℕ} (at - length file) 0), length-take at file, length-replicate {A = ℕ} (at - length file) 0)

  ends : length (take at file ++ replicate {A = ℕ} (at - length file) 0 ++ bytes) ≡ at + length bytes
  ends = omega (arith, length-append (take at file ++ replicate {A = ℕ} (at - length file) 0) bytes, front)

  within : place < at → (place < length file) ⊎ (length file ≤ place) → slice_index (take at file ++ replicate {A = ℕ} (at - length file) 0) place ≡ slice_index file place
  within low (inl h) =
      get_or_append_left (take at file) (replicate {A = ℕ} (at - length file) 0) 0 place (omega (arith, length-take at file, low, h))
      ∙ get_or-take at file place 0 low
  within low (inr h) =
      let long : length (take at file) ≡ length file = omega (arith, length-take at file, low, h) in
      get_or-append_right (take at file) (replicate {A = ℕ} (at - length file) 0) (length file) place 0 long h
      ∙ get_or-replicate (at - length file) (place - length file) 0 0 (omega (arith, low, h)) ∙ sym (get_or_past file place 0 h)

  before : place < at → slice_index (overwritten file at bytes) place ≡ slice_index file place
  before low =
      get_or_append_left (take at file ++ replicate {A = ℕ} (at - length file) 0 ++ bytes) (drop (at + length bytes) file) 0 place (omega (arith, ends, low))
      ∙ get_or_append_left (take at file ++ replicate {A = ℕ} (at - length file) 0) bytes 0 place (omega (arith, front, low))
      ∙ within low (cases_lt place (length file))

  after : at + length bytes ≤ place → slice_index (overwritten file at bytes) place ≡ slice_index file place
  after high =
      let there : (at + length bytes) + (place - (at + length bytes)) ≡ place = omega (arith, high) in
      get_or-append_right (take at file ++ replicate {A = ℕ} (at - length file) 0 ++ bytes) (drop (at + length bytes) file) (at + length bytes) place 0 ends high
      ∙ get_or-drop (at + length bytes) file (place - (at + length bytes)) 0 ∙ ap (slice_index file) there

-- ---- where blobs lie

-- the units of a length hold its bytes
pub units_hold : (len : ℕ) → len ≤ units_of len * 4096
units_hold len = omega arith

-- each blob that is there lies in its extent
pub lies : (s : State) (name : BlobName) (blob : Blob) → IsPlaced s → s.limits.units ≤ 2 ^ 51 → get s.blobs name ≡ Some blob → LieIn blob.row.extent 0 blob.row.len
lies s name blob placed low there = record {
  inside = subst (λ (units : ℕ). 0 + blob.row.len ≤ units * 4096) (sym (placed.units name blob there)) (omega (arith, units_hold blob.row.len));
  low = omega (arith, placed.within name blob there, low);
}

-- a fresh blob is short, and its units are free
pub record IsFreeIn (s : State) (fresh : Stored) : Type 0 where
  pub short : fresh.len ≤ most_bytes
  pub few : length fresh.links ≤ most_links
  pub free : is_free s (extent_of fresh) ≡ true

fresh_free : (s : State) (space : List ℕ) (fresh : Stored) → is_fresh s space fresh ≡ true → IsFreeIn s fresh
fresh_free s space fresh is =
    let parts = and_parts (not (has_blob s space fresh.hash) && nat_le fresh.len most_bytes && nat_le (length fresh.links) most_links) (is_free s (extent_of fresh)) is in
    let counts = and_parts (not (has_blob s space fresh.hash) && nat_le fresh.len most_bytes) (nat_le (length fresh.links) most_links) parts.0 in
    let short = and_parts (not (has_blob s space fresh.hash)) (nat_le fresh.len most_bytes) counts.0 in
    record { short = leb-true fresh.len most_bytes short.1; few = leb-true (length fresh.links) most_links counts.1; free = parts.1 }

pub legal_free : (s : State) (entry : Entry) → legal s entry ≡ true → (fresh : Stored) → fresh_of entry ≡ Some fresh → IsFreeIn s fresh
legal_free s (Space space ttl pin) is fresh e = absurd (cc)
legal_free s (Upload space hour blob) is fresh e = subst (λ (f : Stored). IsFreeIn s f) (same_some blob fresh e) (fresh_free s space blob (and_parts (has_space s space) (is_fresh s space blob) is).1)
legal_free s (Repin space hash hour) is fresh e = absurd (cc)
legal_free s (Put name root None whole hour) is fresh e = absurd (cc)
legal_free s (Put name root (Some blob) whole hour) is fresh e =
    let parts = and_parts (has_space s name.space) (same_hash blob.hash root && is_fresh s name.space blob) (fits s (Put name root (Some blob) whole hour) is) in
    subst (λ (f : Stored). IsFreeIn s f) (same_some blob fresh e) (fresh_free s name.space blob (and_parts (same_hash blob.hash root) (is_fresh s name.space blob) parts.1).1)
legal_free s (Finalise name hash hour) is fresh e = absurd (cc)
legal_free s (Delete name hour) is fresh e = absurd (cc)
legal_free s (Touch name hour) is fresh e = absurd (cc)
legal_free s (Expire space spots hour) is fresh e = absurd (cc)
legal_free s (Swept space hashes) is fresh e = absurd (cc)
legal_free s (Cursor space cursor) is fresh e = absurd (cc)
legal_free s (BaseHour hour) is fresh e = absurd (cc)
legal_free s (BaseSlot name finalised pending seen) is fresh e = absurd (cc)
legal_free s (BaseEvent name number op) is fresh e = absurd (cc)

-- ---- the file once the blob was written

-- the bytes that come with an entry are those of its blob
pub brings_length : (fresh : Option Stored) (blob : Option (List ℕ)) → Brings fresh blob → (stored : Stored) → fresh ≡ Some stored → stored.len ≡ length (bytes_or_none blob)
brings_length None blob brings stored e = absurd (cc)
brings_length (Some fresh) None brings stored e = absurd brings
brings_length (Some fresh) (Some bytes) brings stored e = sym (ap (λ (f : Stored). f.len) (same_some fresh stored e)) ∙ brings

-- they are there
pub has_fresh : (file : List ℕ) (place : Extent) (bytes : List ℕ) → bytes_from (with_bytes file place bytes) (first_byte place) (length bytes) ≡ bytes
has_fresh file place [] = refl
has_fresh file place (b ∷ bs) = (written_has file (first_byte place) (b ∷ bs)).same

pub with_bytes_longer : (file : List ℕ) (place : Extent) (bytes : List ℕ) → length file ≤ length (with_bytes file place bytes)
with_bytes_longer file place [] = omega arith
with_bytes_longer file place (b ∷ bs) = (torn_written (first_byte place) file (b ∷ bs)).no_shorter

-- and another extent keeps its bytes
pub keeps_other : (file : List ℕ) (place other : Extent) (bytes : List ℕ) (n : ℕ) → LieIn place 0 (length bytes) → LieIn other 0 n → Apart place other → bytes_from (with_bytes file place bytes) (first_byte other) n ≡ bytes_from file (first_byte other) n
keeps_other file place other [] n lie others apart = refl
keeps_other file place other (b ∷ bs) n lie others apart =
    same_piece (overwritten file (first_byte place) (b ∷ bs)) file (first_byte other) n (λ k l.
    overwritten_outside file (first_byte place) (b ∷ bs) (first_byte other + k) (outside (first_byte other + k) (other_extent place other n apart others (first_byte other + k) (omega arith) (omega (arith, l))))) where
      outside : (at : ℕ) → ¬ HasPlace place at → (at < first_byte place) ⊎ (first_byte place + length (b ∷ bs) ≤ at)
      outside at not = ⊎_elim (λ (h : at < first_byte place). inl h) (λ (h : first_byte place ≤ at). ⊎_elim (λ (k : at < first_byte place + place.units * 4096). absurd (not (h, k))) (λ (k : first_byte place + place.units * 4096 ≤ at). inr (omega (arith, k, lie.inside))) (cases_lt at (first_byte place + place.units * 4096))) (cases_lt at (first_byte place))

-- nothing comes with an entry that adds no blob
pub brings_none : (blob : Option (List ℕ)) → Brings None blob → bytes_or_none blob ≡ []
brings_none None brings = refl
brings_none (Some bytes) brings = absurd brings

-- ---- an entry is made

-- the bytes lie in the extent of the blob that it adds
lies_at : (s : State) (entry : Entry) (blob : Option (List ℕ)) → s.limits.units ≤ 2 ^ 51 → legal s entry ≡ true → (fresh : Option Stored) → fresh_of entry ≡ fresh → Brings fresh blob → LieIn (place_of fresh) 0 (length (bytes_or_none blob))
lies_at s entry blob low is_legal None is none = record { inside = omega (arith, ap length (brings_none blob none)); low = omega arith }
lies_at s entry blob low is_legal (Some fresh) is some =
    let free = legal_free s entry is_legal fresh is in
    record { inside = omega (arith, units_hold fresh.len, brings_length (Some fresh) blob some fresh refl); low = omega (arith, low, free_within s (extent_of fresh) free.free) }

pub fresh_lies_in : (s : State) (entry : Entry) (blob : Option (List ℕ)) → s.limits.units ≤ 2 ^ 51 → legal s entry ≡ true → Brings (fresh_of entry) blob → LieIn (place_of (fresh_of entry)) 0 (length (bytes_or_none blob))
fresh_lies_in s entry blob low is_legal brings = lies_at s entry blob low is_legal (fresh_of entry) refl brings

module _ (s : State) (entry : Entry) (blob : Option (List ℕ)) (placed : IsPlaced s) (low : s.limits.units ≤ 2 ^ 51) (is_legal : legal s entry ≡ true) (brings : Brings (fresh_of entry) blob) where
  abbrev pub place : Extent
  place = place_of (fresh_of entry)

  abbrev pub bytes : List ℕ
  bytes = bytes_or_none blob

  -- the bytes lie in the blob's extent
  pub fresh_lies : LieIn place 0 (length bytes)
  fresh_lies = fresh_lies_in s entry blob low is_legal brings

  -- which has no unit of another blob
  apart_at : (fresh : Option Stored) → fresh_of entry ≡ fresh → (name : BlobName) (found : Blob) → get s.blobs name ≡ Some found → Apart (place_of fresh) found.row.extent
  apart_at None is name found there unit ours theirs = absurd (omega (arith, ours.0, ours.1))
  apart_at (Some fresh) is name found there unit ours theirs = free_apart s (extent_of fresh) name found (legal_free s entry is_legal fresh is).free there unit theirs ours

  pub fresh_apart : (name : BlobName) (found : Blob) → get s.blobs name ≡ Some found → Apart place found.row.extent
  fresh_apart = apart_at (fresh_of entry) refl

  module _ (file : List ℕ) where
    abbrev pub written : List ℕ
    written = with_bytes file place bytes

    old_bytes : (name : BlobName) (found : Blob) → get s.blobs name ≡ Some found → bytes_at written found ≡ bytes_at file found
    old_bytes name found there = keeps_other file place found.row.extent bytes found.row.len fresh_lies (lies s name found placed low there) (fresh_apart name found there)

    new_bytes : (fresh : Option Stored) → Brings fresh blob → IfSome fresh (λ stored. bytes_from (with_bytes file (place_of fresh) bytes) (first_byte (extent_of stored)) stored.len ≡ bytes)
    new_bytes None none = tt
    new_bytes (Some fresh) some = ap (bytes_from (with_bytes file (extent_of fresh) bytes) (first_byte (extent_of fresh))) (brings_length (Some fresh) blob some fresh refl) ∙ has_fresh file (extent_of fresh) bytes

    -- the file gives the new blob its bytes, and the others what they had
    pub written_gives : bytes_in written (after s entry).blobs ≡ kept (bytes_in file s.blobs) entry bytes
    written_gives = bytes_added file written s bytes old_bytes entry (new_bytes (fresh_of entry) brings)

    -- ---- how far the blobs reach

    abbrev Reach : BlobName → Blob → List ℕ → Type 0
    Reach name found any = first_byte found.row.extent + found.row.len ≤ length written

    reach_lasts : (name : BlobName) (found : Blob) (any : List ℕ) (hour : ℕ) → Reach name found any → Reach name (later found hour) any
    reach_lasts name found any hour h = h

    there_is : (o : Option Blob) (any : List ℕ) → option_map (bytes_at file) o ≡ Some any → IsSome o
    there_is None any e = cc e
    there_is (Some found) any e = refl

    old_reach : AllReach file s → Have Reach s.blobs (bytes_in file s.blobs)
    old_reach reach = record {
      each = λ name found there. (bytes_at file found, get_bytes file s.blobs name ∙ ap (option_map (bytes_at file)) there, omega (arith, reach name found there, with_bytes_longer file place bytes));
      none_else = λ name any there. there_is (get s.blobs name) any (sym (get_bytes file s.blobs name) ∙ there);
    }

    new_reach : (fresh : Option Stored) → Brings fresh blob → StartsLow fresh → (stored : Stored) → fresh ≡ Some stored → first_byte (extent_of stored) + stored.len ≤ length (with_bytes file (place_of fresh) bytes)
    new_reach None none starts stored is = absurd (cc)
    new_reach (Some fresh) some starts stored is = subst (λ (f : Stored). first_byte (extent_of f) + f.len ≤ length (with_bytes file (extent_of fresh) bytes)) (same_some fresh stored is) (by_bytes bytes (brings_length (Some fresh) blob some fresh refl)) where
      by_bytes : (found : List ℕ) → fresh.len ≡ length found → first_byte (extent_of fresh) + fresh.len ≤ length (with_bytes file (extent_of fresh) found)
      by_bytes [] e = let none : fresh.len ≡ 0 = e in omega (arith, none, starts none)
      by_bytes (b ∷ bs) e = omega (arith, e, (written_has file (first_byte (extent_of fresh)) (b ∷ bs)).reaches)

    pub written_reaches : StartsLow (fresh_of entry) → AllReach file s → AllReach written (after s entry)
    written_reaches starts reach name found there =
        ((stay Reach reach_lasts s (bytes_in file s.blobs) entry bytes (old_reach reach) (adds entry (λ stored is. new_reach (fresh_of entry) brings starts stored is))).each name found there).2
      where
        adds : (made : Entry) → ((stored : Stored) → fresh_of made ≡ Some stored → first_byte (extent_of stored) + stored.len ≤ length written) → Adds Reach reach_lasts made bytes
        adds (Space space ttl pin) known = tt
        adds (Upload space hour stored) known = known stored refl
        adds (Repin space hash hour) known = tt
        adds (Put name root None whole hour) known = tt
        adds (Put name root (Some stored) whole hour) known = known stored refl
        adds (Finalise name hash hour) known = tt
        adds (Delete name hour) known = tt
        adds (Touch name hour) known = tt
        adds (Expire space spots hour) known = tt
        adds (Swept space hashes) known = tt
        adds (Cursor space cursor) known = tt
        adds (BaseHour hour) known = tt
        adds (BaseSlot name finalised pending seen) known = tt
        adds (BaseEvent name number op) known = tt
