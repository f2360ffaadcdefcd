-- What the tests of extents say.
use Rattle.std.specs.Prelude.{◌≡◌, ℕ, zero, suc, ◌+◌, ◌≤◌, ◌<◌, Bool, true, false, ◌&&◌, ◌||◌, List, [], ◌∷◌, None, Some, nat_le, nat_eq, cond, T, refl}
use Rattle.std.proofs.Common.{ap, sym, ◌∙◌, subst, ⊎_elim, arith}
use Rattle.std.proofs.lemmas.Bool.{and_parts, and_from, or_cases, or_parts, eqb-true, leb-true, leb-false, le-leb, cases_lt, true_from_ne_false}
use Rattle.std.specs.declared.cmp.Ordering.{Ordering}
use Rattle.std.specs.declared.cmp.Ordering.TheVariants.{Less, Equal, Greater}
use Rattle.std.specs.Ordering.{eq_by_cmp, is_eq, is_lt}
use Rattle.std.specs.Cmp.{tied_itself}
use Rattle.std.specs.FinMap.{get, entries, entries_sorted, find, is_sorted, get-entries}
use Rattle.std.specs.FinMap.Entries.{below_all}
use Rattle.ddc_model.specs.declared.rows.Blob.{Blob}
use Rattle.ddc_model.specs.declared.rows.BlobName.{BlobName}
use Rattle.ddc_model.specs.declared.rows.Extent.{Extent}
use Rattle.ddc_model.specs.Keys.{blob_cmp, blob_exact, blob_total}
use Rattle.ddc_model.specs.State.{State}
use Rattle.ddc_model.specs.Extents.{Apart, is_apart, is_apart_from_all, is_free}

-- ---- extents with no unit in common

pub swapped : (a b : Extent) → Apart a b → Apart b a
swapped a b far unit ours theirs = far unit theirs ours

-- extents that the test says are apart have no unit in common
pub apart : (a b : Extent) → is_apart a b ≡ true → Apart a b
apart a b h unit ours theirs = ⊎_elim
    (λ some. ⊎_elim
    (λ none. ⊎_elim
    (λ empty. omega (arith, eqb-true a.units 0 empty, ours.0, ours.1))
    (λ empty. omega (arith, eqb-true b.units 0 empty, theirs.0, theirs.1))
    (or_cases (nat_eq a.units 0) (nat_eq b.units 0) none))
    (λ before. omega (arith, leb-true (a.start + a.units) b.start before, ours.1, theirs.0))
    (or_cases (nat_eq a.units 0 || nat_eq b.units 0) (nat_le (a.start + a.units) b.start) some))
    (λ after. omega (arith, leb-true (b.start + b.units) a.start after, ours.0, theirs.1))
    (or_cases (nat_eq a.units 0 || nat_eq b.units 0 || nat_le (a.start + a.units) b.start) (nat_le (b.start + b.units) a.start) h)

positive : (n : ℕ) → nat_eq n 0 ≡ false → 0 < n
positive zero e = absurd (cc)
positive (suc n) e = omega arith

-- extents that overlap have a unit in common
meets : (a b : Extent) → 0 < a.units → 0 < b.units → b.start < a.start + a.units → a.start < b.start + b.units → ¬ Apart a b
meets a b ours theirs low high far = ⊎_elim
    (λ (before : a.start < b.start). far b.start (omega (arith, before), low) (omega arith, omega (arith, theirs)))
    (λ (after : b.start ≤ a.start). far a.start (omega arith, omega (arith, ours)) (after, high))
    (cases_lt a.start b.start)

-- extents with no unit in common pass the test
pub apart_passes : (a b : Extent) → Apart a b → is_apart a b ≡ true
apart_passes a b far = true_from_ne_false (is_apart a b) (λ no.
    let all = or_parts (nat_eq a.units 0 || nat_eq b.units 0 || nat_le (a.start + a.units) b.start) (nat_le (b.start + b.units) a.start) no in
    let some = or_parts (nat_eq a.units 0 || nat_eq b.units 0) (nat_le (a.start + a.units) b.start) all.0 in
    let none = or_parts (nat_eq a.units 0) (nat_eq b.units 0) some.0 in
    meets a b (positive a.units none.0) (positive b.units none.1) (leb-false (a.start + a.units) b.start some.1) (leb-false (b.start + b.units) a.start all.1) far)

-- ---- free extents

same_blob : (a b : Blob) → Some a ≡ Some b → a ≡ b
same_blob a b is = cc

-- what is apart from all blobs is apart from each
apart_from : (bs : List (BlobName × Blob)) (e : Extent) (name : BlobName) (blob : Blob) → is_apart_from_all bs e ≡ true → find blob_cmp name bs ≡ Some blob → is_apart blob.row.extent e ≡ true
apart_from [] e name blob all there = absurd (cc)
apart_from (b ∷ bs) e name blob all there = split (apart_from bs e name blob parts.1) (eq_by_cmp blob_cmp name b.0) there where
  parts : (is_apart b.1.row.extent e ≡ true) × (is_apart_from_all bs e ≡ true)
  parts = and_parts (is_apart b.1.row.extent e) (is_apart_from_all bs e) all

  split : (find blob_cmp name bs ≡ Some blob → is_apart blob.row.extent e ≡ true) → (t : Bool) → cond t (Some b.1) (find blob_cmp name bs) ≡ Some blob → is_apart blob.row.extent e ≡ true
  split rest true found = subst (λ (x : Blob). is_apart x.row.extent e ≡ true) (same_blob b.1 blob found) parts.0
  split rest false found = rest found

-- what is below all isn't found
unfound : (name : BlobName) (bs : List (BlobName × Blob)) → T (below_all blob_cmp name bs) → find blob_cmp name bs ≡ None
unfound name [] below = refl
unfound name (b ∷ bs) below = split (unfound name bs) (blob_cmp name b.0) below where
  split : (T (below_all blob_cmp name bs) → find blob_cmp name bs ≡ None) → (o : Ordering) → T (is_lt o && below_all blob_cmp name bs) → cond (is_eq o) (Some b.1) (find blob_cmp name bs) ≡ None
  split rest Less h = rest h
  split rest Equal h = absurd h
  split rest Greater h = absurd h

both_hold : (a b : Bool) → T (a && b) → T a × T b
both_hold true b h = (tt, h)
both_hold false b h = absurd h

-- what is apart from each of some blobs, whose names stand in order, is apart from all
apart_from_each : (bs : List (BlobName × Blob)) (e : Extent) → T (is_sorted blob_cmp bs) → ((name : BlobName) (blob : Blob) → find blob_cmp name bs ≡ Some blob → is_apart blob.row.extent e ≡ true) → is_apart_from_all bs e ≡ true
apart_from_each [] e sorted each = refl
apart_from_each (b ∷ bs) e sorted each = and_from (is_apart b.1.row.extent e) (is_apart_from_all bs e) first (apart_from_each bs e parts.1 (λ name blob found. each name blob (later name blob found))) where
  parts : T (below_all blob_cmp b.0 bs) × T (is_sorted blob_cmp bs)
  parts = both_hold (below_all blob_cmp b.0 bs) (is_sorted blob_cmp bs) sorted

  here : find blob_cmp b.0 (b ∷ bs) ≡ Some b.1
  here = ap (λ (o : Ordering). cond (is_eq o) (Some b.1) (find blob_cmp b.0 bs)) (tied_itself blob_total b.0)

  first : is_apart b.1.row.extent e ≡ true
  first = each b.0 b.1 here

  later : (name : BlobName) (blob : Blob) → find blob_cmp name bs ≡ Some blob → find blob_cmp name (b ∷ bs) ≡ Some blob
  later name blob found = split (blob_cmp name b.0) refl where
    split : (o : Ordering) → blob_cmp name b.0 ≡ o → cond (is_eq o) (Some b.1) (find blob_cmp name bs) ≡ Some blob
    split Less is = found
    split Equal is = absurd (let none = ap (λ (q : BlobName). find blob_cmp q bs) (blob_exact name b.0 is) ∙ unfound b.0 bs parts.0 in let no : None ≡ Some blob = sym none ∙ found in cc)
    split Greater is = found

-- what is free ends at or below the limit, and has no unit of a blob
pub free_within : (s : State) (e : Extent) → is_free s e ≡ true → e.start + e.units ≤ s.limits.units
free_within s e free = leb-true (e.start + e.units) s.limits.units (and_parts (nat_le (e.start + e.units) s.limits.units) (is_apart_from_all (entries s.blobs) e) free).0

pub free_apart : (s : State) (e : Extent) (name : BlobName) (blob : Blob) → is_free s e ≡ true → get s.blobs name ≡ Some blob → Apart blob.row.extent e
free_apart s e name blob free there =
    apart blob.row.extent e
    (apart_from (entries s.blobs) e name blob (and_parts (nat_le (e.start + e.units) s.limits.units) (is_apart_from_all (entries s.blobs) e) free).1 (sym (get-entries s.blobs name) ∙ there))

-- and what does so is free
pub is_free_when : (s : State) (e : Extent) → e.start + e.units ≤ s.limits.units → ((name : BlobName) (blob : Blob) → get s.blobs name ≡ Some blob → Apart blob.row.extent e) → is_free s e ≡ true
is_free_when s e within far =
    and_from (nat_le (e.start + e.units) s.limits.units) (is_apart_from_all (entries s.blobs) e) (le-leb (e.start + e.units) s.limits.units within)
    (apart_from_each (entries s.blobs) e (entries_sorted s.blobs) (λ name blob found. apart_passes blob.row.extent e (far name blob (get-entries s.blobs name ∙ found))))
