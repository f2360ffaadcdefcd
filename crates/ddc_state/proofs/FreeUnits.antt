-- The free extents of the file are those that have no unit of a blob.
use Rattle.std.specs.Prelude.{◌≡◌, ℕ, zero, suc, ◌+◌, ◌≤◌, ◌<◌, ◌↔◌, Bool, true, false, None, Some, IsTrue, nat_eq, if◌then◌else◌, refl}
use Rattle.std.proofs.Common.{ap, sym, ◌∙◌, subst, ⊎_elim, arith}
use Rattle.std.proofs.lemmas.Bool.{cases_lt, eqb-true, false_from_ne_true}
use Rattle.std.specs.FinMap.{FinMap, get}
use Rattle.ddc_model.specs.declared.rows.Blob.{Blob}
use Rattle.ddc_model.specs.declared.rows.BlobName.{BlobName}
use Rattle.ddc_model.specs.declared.rows.Extent.{Extent}
use Rattle.ddc_model.specs.Keys.{blob_cmp}
use Rattle.ddc_model.specs.State.{State}
use Rattle.ddc_model.specs.Extents.{HasUnit, Apart, extent, is_free, first_that, free_run}
use Rattle.ddc_model.specs.ExtentLaws.{free_within, free_apart, is_free_when}
use Rattle.blob_store.specs.Claims.{Claims, IsClaimed, IsFree, IsFirstRun, HasNoRun}
use Rattle.ddc_state.specs.inside.Claimed.{AreClaims}

-- ---- the first number that a test accepts

first_found : (test : ℕ → Bool) (from n found : ℕ) → test found ≡ true → from ≤ found → found < from + n → ((k : ℕ) → from ≤ k → k < found → test k ≡ false) → first_that test from n ≡ Some found
first_found test from zero found passes low high others = absurd (omega (arith, low, high))
first_found test from (suc n) found passes low high others =
    split (λ (past : from + 1 ≤ found). first_found test (from + 1) n found passes past (omega (arith, high)) (λ k l h. others k (omega (arith, l)) h)) (test from) refl where
      here : test from ≡ true → from ≡ found
      here is = ⊎_elim (λ (before : from < found). absurd (let fails = others from (omega arith) before in cc)) (λ (after : found ≤ from). omega (arith, low, after)) (cases_lt from found)

      past : test from ≡ false → from + 1 ≤ found
      past is = ⊎_elim (λ (before : from < found). omega (arith, before)) (λ (after : found ≤ from). absurd (let same : found ≡ from = omega (arith, low, after) in let alike = ap test same in cc)) (cases_lt from found)

      split : (from + 1 ≤ found → first_that test (from + 1) n ≡ Some found) → (t : Bool) → test from ≡ t → (if t then Some from else first_that test (from + 1) n) ≡ Some found
      split rest true is = ap (λ (k : ℕ). Some k) (here is)
      split rest false is = rest (past is)

none_found : (test : ℕ → Bool) (from n : ℕ) → ((k : ℕ) → test k ≡ false) → first_that test from n ≡ None
none_found test from zero fails = refl
none_found test from (suc n) fails = ap (λ (t : Bool). if t then Some from else first_that test (from + 1) n) (fails from) ∙ none_found test (from + 1) n fails

-- ---- the two meanings of a free extent

module _ (claims : Claims) (limit : ℕ) (blobs : FinMap blob_cmp Blob) (are : AreClaims claims limit blobs) where
  -- the units of a blob are claimed
  pub blob_claimed : (name : BlobName) (blob : Blob) → get blobs name ≡ Some blob → IsClaimed claims blob.row.extent
  blob_claimed name blob there some = (are.exactly blob.row.extent.start blob.row.extent.units).1 (some, (name, blob, there, refl))

  free_of_blobs : (e : Extent) → IsFree claims e → (name : BlobName) (blob : Blob) → get blobs name ≡ Some blob → Apart blob.row.extent e
  free_of_blobs e free name blob there unit theirs ours = free.apart blob.row.extent.start blob.row.extent.units (blob_claimed name blob there (omega (arith, theirs.0, theirs.1))) unit ours theirs

  free_of_claims : (e : Extent) → e.start + e.units ≤ limit → ((name : BlobName) (blob : Blob) → get blobs name ≡ Some blob → Apart blob.row.extent e) → IsFree claims e
  free_of_claims e within far = record {
    within = omega (arith, within, are.file);
    apart = λ start units is unit ours theirs.
        let owner = ((are.exactly start units).0 is).1 in
        far owner.0 owner.1 owner.2 unit (subst (λ (x : Extent). HasUnit x unit) (sym owner.3) theirs) ours;
  }

module _ (claims : Claims) (s : State) (are : AreClaims claims s.limits.units s.blobs) where
  is_free_of : (e : Extent) → IsFree claims e → is_free s e ≡ true
  is_free_of e free = is_free_when s e (omega (arith, free.within, are.file)) (free_of_blobs claims s.limits.units s.blobs are e free)

  pub free_of : (e : Extent) → is_free s e ≡ true → IsFree claims e
  free_of e is = free_of_claims claims s.limits.units s.blobs are e (free_within s e is) (λ name blob there. free_apart s e name blob is there)

  -- a test of the one is a test of the other
  pub tests_agree : (e : Extent) (found : Bool) → (IsTrue found ↔ IsFree claims e) → found ≡ is_free s e
  tests_agree e true both = sym (is_free_of e (both.0 refl))
  tests_agree e false both = sym (false_from_ne_true (is_free s e) (λ free. let found = both.1 (free_of e free) in cc))

  -- ---- the first run of free units

  nothing_free : (units : ℕ) → units ≡ 0 → IsFree claims (extent 0 units)
  nothing_free units none = record { within = omega (arith, none); apart = λ start n is unit ours theirs. omega (arith, none, ours.1) }

  pub run_begins : (units : ℕ) (run : Extent) → IsFirstRun claims units run → free_run s units ≡ Some run.start
  run_begins units run first = split (nat_eq units 0) refl where
    at_start : units ≡ 0 → 0 ≡ run.start
    at_start none = ⊎_elim (λ (later : 0 < run.start). absurd (first.first 0 later (nothing_free units none))) (λ (now : run.start ≤ 0). omega (arith, now)) (cases_lt 0 run.start)

    free : is_free s (extent run.start units) ≡ true
    free = subst (λ (n : ℕ). is_free s (extent run.start n) ≡ true) first.long (is_free_of run first.free)

    others : (k : ℕ) → k < run.start → is_free s (extent k units) ≡ false
    others k before = false_from_ne_true (is_free s (extent k units)) (λ free. first.first k before (free_of (extent k units) free))

    split : (t : Bool) → nat_eq units 0 ≡ t → (if t then Some 0 else first_that (λ start. is_free s (extent start units)) 0 (s.limits.units + 1)) ≡ Some run.start
    split true is = ap (λ (k : ℕ). Some k) (at_start (eqb-true units 0 is))
    split false is = first_found (λ start. is_free s (extent start units)) 0 (s.limits.units + 1) run.start free (omega arith) (omega (arith, first.free.within, are.file)) (λ k low before. others k before)

  pub no_run : (units : ℕ) → HasNoRun claims units → free_run s units ≡ None
  no_run units none = split (nat_eq units 0) refl where
    split : (t : Bool) → nat_eq units 0 ≡ t → (if t then Some 0 else first_that (λ start. is_free s (extent start units)) 0 (s.limits.units + 1)) ≡ None
    split true is = absurd (none 0 (nothing_free units (eqb-true units 0 is)))
    split false is =
        none_found (λ start. is_free s (extent start units)) 0 (s.limits.units + 1) (λ k. false_from_ne_true (is_free s (extent k units)) (λ free. none k (free_of (extent k units) free)))
