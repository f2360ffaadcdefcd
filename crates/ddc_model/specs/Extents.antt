-- Where the bytes of blobs may stand in the blob file. A unit is 4,096 bytes, and units are counted from 0.
use Rattle.std.specs.Prelude.{◌≡◌, ℕ, zero, suc, ◌+◌, ◌/◌, ◌≤◌, ◌<◌, Bool, true, ◌&&◌, ◌||◌, List, [], ◌∷◌, Option, None, Some, nat_le, nat_eq, if◌then◌else◌}
use Rattle.std.specs.FinMap.{FinMap, get, entries}
use Rattle.ddc_model.specs.declared.rows.Blob.{Blob}
use Rattle.ddc_model.specs.declared.rows.BlobName.{BlobName}
use Rattle.ddc_model.specs.declared.rows.Extent.{Extent}
use Rattle.ddc_model.specs.Keys.{blob_cmp}
use Rattle.ddc_model.specs.Limits.{most_bytes}
use Rattle.ddc_model.specs.State.{State}

-- the smallest number of units of 4,096 bytes that holds so many bytes
abbrev pub units_of : ℕ → ℕ
units_of len = (len + 4095) / 4096

-- so many units from this one on
abbrev pub extent : ℕ → ℕ → Extent
extent start units = record { start = start; units = units }

-- the extent has the unit
abbrev pub HasUnit : Extent → ℕ → Type 0
HasUnit extent unit = (extent.start ≤ unit) × (unit < extent.start + extent.units)

-- no unit is in both
abbrev pub Apart : Extent → Extent → Type 0
Apart a b = (unit : ℕ) → HasUnit a unit → ¬ HasUnit b unit

-- ---- which units are free

-- the same as a test: one of them has no units, or ends before the other begins
abbrev pub is_apart : Extent → Extent → Bool
is_apart a b = nat_eq a.units 0 || nat_eq b.units 0 || nat_le (a.start + a.units) b.start || nat_le (b.start + b.units) a.start

-- it has no unit of these blobs
abbrev pub is_apart_from_all : List (BlobName × Blob) → Extent → Bool
is_apart_from_all [] e = true
is_apart_from_all (b ∷ bs) e = is_apart b.1.row.extent e && is_apart_from_all bs e

-- it lies below the limit, and has no unit of a blob
abbrev pub is_free : State → Extent → Bool
is_free s e = nat_le (e.start + e.units) s.limits.units && is_apart_from_all (entries s.blobs) e

-- the first of so many numbers from this one on of which the test says yes
abbrev pub first_that : (ℕ → Bool) → ℕ → ℕ → Option ℕ
first_that test from zero = None
first_that test from (suc n) = if test from then Some from else first_that test (from + 1) n

-- where the first run of so many free units begins; no units stand at 0
abbrev pub free_run : State → ℕ → Option ℕ
free_run s units = if nat_eq units 0 then Some 0 else first_that (λ start. is_free s (extent start units)) 0 (s.limits.units + 1)

-- ---- where the blobs of a state stand

-- each of these blobs has the units that its length takes, below the limit, and no two of them have a unit in common
pub record ArePlaced (limit : ℕ) (blobs : FinMap blob_cmp Blob) : Type 0 where
  pub short : (name : BlobName) (blob : Blob) → get blobs name ≡ Some blob → blob.row.len ≤ most_bytes
  pub units : (name : BlobName) (blob : Blob) → get blobs name ≡ Some blob → blob.row.extent.units ≡ units_of blob.row.len
  pub within : (name : BlobName) (blob : Blob) → get blobs name ≡ Some blob → blob.row.extent.start + blob.row.extent.units ≤ limit
  pub apart : (name other : BlobName) (blob found : Blob) → ¬ (name ≡ other) → get blobs name ≡ Some blob → get blobs other ≡ Some found → Apart blob.row.extent found.row.extent

-- the blobs of a state are so
abbrev pub IsPlaced : State → Type 0
IsPlaced s = ArePlaced s.limits.units s.blobs
