-- What a write to an extent leaves of the bytes there and elsewhere.
use Rattle.std.specs.Prelude.{◌≡◌, ℕ, zero, suc, ◌+◌, ◌-◌, ◌*◌, ◌/◌, ◌≤◌, ◌<◌, List, ◌∷◌, ◌++◌, map, length, take, drop, replicate, slice_index, refl}
use Rattle.std.specs.List.{range_with_len}
use Rattle.std.proofs.Common.{sym, ◌∙◌, ap, ⊎_elim, arith, append_assoc, length-append, length-drop}
use Rattle.std.proofs.lemmas.Bool.{cases_lt}
use Rattle.std.proofs.lemmas.List.{map-append, length-take, length-replicate, get_or-take, get_or-drop, get_or_append_left, get_or-append_right}
use Rattle.std.proofs.lemmas.List.FromFn.{length-map-range_with_len, get_or-map-range_with_len}
use Rattle.std.proofs.lemmas.Grind.{same_number_lists}
use Rattle.ddc_disk.specs.Disk.{Torn, overwritten}
use Rattle.ddc_model.specs.declared.rows.Extent.{Extent}
use Rattle.ddc_model.specs.Extents.{HasUnit, Apart}
use Rattle.blob_store.specs.Bytes.{first_byte, LieIn, bytes_from, HasBlobBytes, HasPlace, ChangesOnly}

-- a list that has a file's bytes at each index
pub bytes_by_index : (file xs : List ℕ) (at : ℕ) → ((k : ℕ) → k < length xs → slice_index xs k ≡ slice_index file (at + k)) → xs ≡ bytes_from file at (length xs)
bytes_by_index file xs at each =
    same_number_lists xs (bytes_from file at (length xs)) (sym (length-map-range_with_len (slice_index file) at (length xs)))
    (λ k l. each k l ∙ sym (get_or-map-range_with_len (slice_index file) at (length xs) k (at + k) 0 l refl))

-- some bytes, and those after them
pub bytes_from_append : (file : List ℕ) (at m n : ℕ) → bytes_from file at (m + n) ≡ bytes_from file at m ++ bytes_from file (at + m) n
bytes_from_append file at m n = ap (map (slice_index file)) (ranges at m n) ∙ map-append (slice_index file) (range_with_len at m) (range_with_len (at + m) n)
  where
    ranges : (at m n : ℕ) → range_with_len at (m + n) ≡ range_with_len at m ++ range_with_len (at + m) n
    ranges at zero n = let none : 0 + n ≡ n = omega arith in let here : at ≡ at + 0 = omega arith in ap (range_with_len at) none ∙ ap (λ (k : ℕ). range_with_len k n) here
    ranges at (suc m) n =
        let more : suc m + n ≡ suc (m + n) = omega arith in
        let later : (at + 1) + m ≡ at + suc m = omega arith in
        ap (range_with_len at) more ∙ ap (λ (l : List ℕ). at ∷ l) (ranges (at + 1) m n ∙ ap (λ (k : ℕ). range_with_len (at + 1) m ++ range_with_len k n) later)

torn_outside : (at n end : ℕ) (before after : List ℕ) → at + n ≤ end → Torn at n before after → (place : ℕ) → place < length before → ¬ ((at ≤ place) × (place < end)) → slice_index after place ≡ slice_index before place
torn_outside at n end before after fits torn place inside not =
    let front = take at before in
    let tail = drop (at + n) before in
    let lengths : length after ≡ length (front ++ torn.middle) + length tail = ap (λ (l : List ℕ). length l) torn.parts ∙ length-append (front ++ torn.middle) tail in
    ⊎_elim
    (λ (h : place < at).
    let long : place < length front = omega (arith, length-take at before, h, inside) in
    ap (λ (l : List ℕ). slice_index l place) (torn.parts ∙ append_assoc front torn.middle tail)
    ∙ get_or_append_left front (torn.middle ++ tail) 0 place long ∙ get_or-take at before place 0 h)
    (λ (h : at ≤ place). ⊎_elim
    (λ (k : place < end). absurd (not (h, k)))
    (λ (k : end ≤ place).
    let ends : length (front ++ torn.middle) ≡ at + n = omega (arith, lengths, length-drop (at + n) before, torn.no_shorter, torn.no_longer, fits, k, inside) in
    let there : (at + n) + (place - (at + n)) ≡ place = omega (arith, fits, k) in
    ap (λ (l : List ℕ). slice_index l place) torn.parts
    ∙ get_or-append_right (front ++ torn.middle) tail (at + n) place 0 ends (omega (arith, fits, k))
    ∙ get_or-drop (at + n) before (place - (at + n)) 0 ∙ ap (slice_index before) there)
    (cases_lt place end))
    (cases_lt place at)

-- a torn write of bytes that lie in an extent changes only the extent
pub torn_changes_only : (extent : Extent) (n : ℕ) (before after : List ℕ) → LieIn extent 0 n → Torn (first_byte extent) n before after → ChangesOnly extent before after
torn_changes_only extent n before after lie torn = record {
  no_shorter = torn.no_shorter;
  outside = torn_outside (first_byte extent) n (first_byte extent + extent.units * 4096) before after (omega (arith, lie.inside)) torn;
}

-- a write leaves its bytes
pub written_has : (file : List ℕ) (at : ℕ) (bytes : List ℕ) → HasBlobBytes (overwritten file at bytes) at bytes
written_has file at bytes =
    let front = take at file ++ replicate {A = ℕ} (at - length file) 0 in
    let tail = drop (at + length bytes) file in
    let starts : length front ≡ at = omega (arith, length-append (take at file) (replicate {A = ℕ} (at - length file) 0), length-take at file, length-replicate {A = ℕ} (at - length file) 0) in
    let ends : length (front ++ bytes) ≡ at + length bytes = omega (arith, length-append front bytes, starts) in
    record {
      reaches = omega (arith, length-append (front ++ bytes) tail, ends);
      same = sym (bytes_by_index (overwritten file at bytes) bytes at (λ k l.
          let here : (at + k) - at ≡ k = omega arith in
          sym (get_or_append_left (front ++ bytes) tail 0 (at + k) (omega (arith, ends, l)) ∙ get_or-append_right front bytes at (at + k) 0 starts (omega arith) ∙ ap (slice_index bytes) here)));
    }

-- bytes outside an extent are kept where only the extent changes
pub kept_outside : (extent : Extent) (before after : List ℕ) (at : ℕ) (bytes : List ℕ) → ChangesOnly extent before after → HasBlobBytes before at bytes → ((place : ℕ) → at ≤ place → place < at + length bytes → ¬ HasPlace extent place) → HasBlobBytes after at bytes
kept_outside extent before after at bytes changes has apart = record {
  reaches = omega (arith, has.reaches, changes.no_shorter);
  same = sym (bytes_by_index after bytes at (λ k l.
      let was : slice_index bytes k ≡ slice_index before (at + k) =
      ap (λ (xs : List ℕ). slice_index xs k) (sym has.same) ∙ get_or-map-range_with_len (slice_index before) at (length bytes) k (at + k) 0 l refl in
      was ∙ sym (changes.outside (at + k) (omega (arith, has.reaches, l)) (apart (at + k) (omega arith) (omega (arith, l))))));
}

-- a byte of an extent that has no unit in common with another isn't in the other
pub other_extent : (extent other : Extent) (n : ℕ) → Apart extent other → LieIn other 0 n → (place : ℕ) → first_byte other ≤ place → place < first_byte other + n → ¬ HasPlace extent place
other_extent extent other n apart lie place low high in_extent =
    let unit = place / 4096 in
    let ours : HasUnit extent unit = (omega (arith, in_extent.0), omega (arith, in_extent.1)) in
    let theirs : HasUnit other unit = (omega (arith, low), omega (arith, high, lie.inside)) in
    apart unit ours theirs

-- a piece of the bytes that a file has is that piece of them
pub piece_of : (file : List ℕ) (at : ℕ) (bytes : List ℕ) (k n : ℕ) → HasBlobBytes file at bytes → k + n ≤ length bytes → bytes_from file (at + k) n ≡ take n (drop k bytes)
piece_of file at bytes k n has fits =
    let long : length (take n (drop k bytes)) ≡ n = omega (arith, length-take n (drop k bytes), length-drop k bytes, fits) in
    same_number_lists (bytes_from file (at + k) n) (take n (drop k bytes)) (length-map-range_with_len (slice_index file) (at + k) n ∙ sym long)
    (λ j l.
    let below : j < n = omega (arith, l, length-map-range_with_len (slice_index file) (at + k) n) in
    let there : at + (k + j) ≡ (at + k) + j = omega arith in
    get_or-map-range_with_len (slice_index file) (at + k) n j ((at + k) + j) 0 below refl ∙ ap (slice_index file) (sym there)
    ∙ sym (get_or-map-range_with_len (slice_index file) at (length bytes) (k + j) (at + (k + j)) 0 (omega (arith, below, fits)) refl)
    ∙ ap (λ (xs : List ℕ). slice_index xs (k + j)) has.same ∙ sym (get_or-drop k bytes j 0) ∙ sym (get_or-take n (drop k bytes) j 0 below))
