-- A message taken in piece by piece, eight chunks at a time.
use Rattle.std.specs.Prelude.{ℕ, ◌+◌, ◌*◌, List}
use Rattle.blake3_hash.specs.Spine.{Levels}
use Rattle.blake3_hash.specs.Fed.{IsHeld}

-- what a contract sees of a wide hasher: its spine, its buffer, and how many bytes of the buffer are used
pub record WideFed : Type 0 where
  pub spine : Levels
  pub buffer : List ℕ
  pub used : ℕ

-- how many bytes were fed to a wide hasher
abbrev pub wide_length : WideFed → ℕ
wide_length hasher = 1024 * hasher.spine.count + hasher.used

-- the bytes m are what was fed to the wide hasher
abbrev pub IsWideFed : WideFed → List ℕ → Type 0
IsWideFed hasher m = IsHeld hasher.spine.levels hasher.spine.count hasher.buffer hasher.used m
