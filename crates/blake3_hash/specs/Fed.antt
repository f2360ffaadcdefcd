-- A message taken in piece by piece.
use Rattle.std.specs.Prelude.{ℕ, ◌+◌, ◌*◌, List, length, take, drop, ◌≡◌, ◌≤◌}
use Rattle.blake3_hash.specs.Spine.{Holds, Levels, leaves}

-- what a contract sees of a hasher: its spine, its buffer, and how many bytes of the buffer are used
pub record Fed : Type 0 where
  pub spine : Levels
  pub buffer : List ℕ
  pub used : ℕ

-- how many bytes were fed to a hasher
abbrev pub fed_length : Fed → ℕ
fed_length hasher = 1024 * hasher.spine.count + hasher.used

-- the spine has the message's first chunks, and the buffer begins with the rest, which is empty only
-- where the message is
pub record IsHeld (levels : List (List ℕ)) (count : ℕ) (buffer : List ℕ) (used : ℕ) (m : List ℕ) : Type 0 where
  pub len : 1024 * count + used ≡ length m
  pub some : 1 ≤ count → 1 ≤ used
  pub rest : take used buffer ≡ drop (1024 * count) m
  pub spine : Holds levels count (leaves count m 0)

-- the bytes m are what was fed to the hasher
abbrev pub IsFed : Fed → List ℕ → Type 0
IsFed hasher m = IsHeld hasher.spine.levels hasher.spine.count hasher.buffer hasher.used m
