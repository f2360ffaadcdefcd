-- The bytes of a blob in the blob file.
use Rattle.std.specs.Prelude.{◌≡◌, ℕ, ◌+◌, ◌*◌, ◌^◌, ◌≤◌, ◌<◌, List, map, length, slice_index}
use Rattle.std.specs.List.{range_with_len}
use Rattle.ddc_disk.specs.Disk.{Timeline, IsImage}
use Rattle.ddc_model.specs.declared.rows.Extent.{Extent}

-- the place of the extent's first byte
abbrev pub first_byte : Extent → ℕ
first_byte extent = extent.start * 4096

-- so many bytes from the extent's byte `at` on lie in it, and the extent ends at or below unit 2^51
pub record LieIn (extent : Extent) (at count : ℕ) : Type 0 where
  pub inside : at + count ≤ extent.units * 4096
  pub low : extent.start + extent.units ≤ 2 ^ 51

-- the bytes at so many places of a file, from a place on; past its end they are 0
abbrev pub bytes_from : List ℕ → ℕ → ℕ → List ℕ
bytes_from file at count = map (slice_index file) (range_with_len at count)

-- the file has these bytes from a place on, and does not end before them
pub record HasBlobBytes (file : List ℕ) (at : ℕ) (bytes : List ℕ) : Type 0 where
  pub reaches : at + length bytes ≤ length file
  pub same : bytes_from file at (length bytes) ≡ bytes

-- the place lies in the extent
abbrev pub HasPlace : Extent → ℕ → Type 0
HasPlace extent place = (first_byte extent ≤ place) × (place < first_byte extent + extent.units * 4096)

-- the file is no shorter than before, and has the bytes that it had outside the extent
pub record ChangesOnly (extent : Extent) (before after : List ℕ) : Type 0 where
  pub no_shorter : length before ≤ length after
  pub outside : (place : ℕ) → place < length before → ¬ HasPlace extent place → slice_index after place ≡ slice_index before place

-- an image of before, of which only the extent changed
abbrev pub MayChange : Extent → Timeline (List ℕ) → List ℕ → Type 0
MayChange extent old image = (before : List ℕ) × IsImage old before × ChangesOnly extent before image
