-- What the bytes of a journal file stand for.
use Rattle.std.specs.Prelude.{◌≡◌, ◌≢◌, ◌⊎◌, ◌<◌, ◌^◌, ◌&&◌, ◌==◌, if◌then◌else◌, ℕ, Bool, false, not, List, [], ◌∷◌, ◌++◌, length, take, drop, slice_index, IsSome}
use Rattle.std.specs.Int.{to_le_bytes, from_le_bytes, w32, w64}
use Rattle.ddc_disk.specs.Disk.{Meaning, EachImage}

-- the bytes that every journal begins with: `DDCJLOG` and a line feed
abbrev pub magic : List ℕ
magic = 68 ∷ 68 ∷ 67 ∷ 74 ∷ 76 ∷ 79 ∷ 71 ∷ 10 ∷ []

-- how many bytes stand in front of the first item: the head and the file's gate
abbrev pub front_size : ℕ
front_size = 21

-- how many bytes stand in front of a body: its gate and its length
abbrev pub item_head : ℕ
item_head = 5

-- a body after its gate: its length in four bytes and its bytes
abbrev pub framed : List ℕ → List ℕ
framed body = to_le_bytes w32 (length body) ++ body

-- items with open gates
abbrev pub items : List (List ℕ) → List ℕ
items [] = []
items (body ∷ bodies) = 1 ∷ framed body ++ items bodies

-- a file's first 20 bytes: the magic, the version and the generation
abbrev pub head_bytes : ℕ → ℕ → List ℕ
head_bytes version generation = magic ++ to_le_bytes w32 version ++ to_le_bytes w64 generation

-- a journal up to its closing gate; the file's own gate, at place 20, is open
abbrev pub journal_bytes : ℕ → ℕ → List (List ℕ) → List ℕ
journal_bytes version generation bodies = head_bytes version generation ++ 1 ∷ items bodies

-- the length of each body fits four bytes
abbrev pub AreSized : List (List ℕ) → Type 0
AreSized [] = Unit {0}
AreSized (body ∷ bodies) = (length body < 2 ^ 32) × AreSized bodies

-- the file is a journal of this version and generation, and of these bodies: after them is a gate that
-- isn't open, and then whatever there is
pub record IsJournal (version generation : ℕ) (bodies : List (List ℕ)) (file : List ℕ) : Type 0 where
  pub gate : ℕ
  pub rest : List ℕ
  pub closed : gate ≢ 1
  pub split : file ≡ journal_bytes version generation bodies ++ gate ∷ rest
  pub numbered : (0 < generation) × (generation < 2 ^ 64)
  pub sized : AreSized bodies

-- these bodies, with one more or without
abbrev pub IsEither : ℕ → ℕ → List (List ℕ) → List ℕ → List ℕ → Type 0
IsEither version generation bodies body file = IsJournal version generation bodies file ⊎ IsJournal version generation (bodies ++ body ∷ []) file

-- the version and the generation that a file's head names
abbrev pub version_in : List ℕ → ℕ
version_in file = from_le_bytes w32 (take 4 (drop 8 file))

abbrev pub generation_in : List ℕ → ℕ
generation_in file = from_le_bytes w64 (take 8 (drop 12 file))

-- the file's gate is open: it is 1, and the generation isn't 0; past the end bytes are 0
abbrev pub is_made : List ℕ → Bool
is_made file = (slice_index file 20 == 1) && not (generation_in file == 0)

-- the generation of a file whose gate is open, and else 0
abbrev pub rank : List ℕ → ℕ
rank file = if is_made file then generation_in file else 0

-- a disk that tells what it holds, each image of which is a journal of these bodies; the closing gate
-- stands at `end`
pub record StandsAs (disk : Meaning) (version generation : ℕ) (bodies : List (List ℕ)) (end : ℕ) : Type 0 where
  pub told : IsSome disk.held
  pub each : EachImage disk.line (IsJournal version generation bodies)
  pub place : end ≡ length (journal_bytes version generation bodies)

-- ---- a journal that stands alone has the version 0

abbrev pub single_version : ℕ
single_version = 0

abbrev pub header : ℕ → List ℕ
header generation = head_bytes single_version generation

abbrev pub spelled : ℕ → List (List ℕ) → List ℕ
spelled generation bodies = journal_bytes single_version generation bodies

abbrev pub Loads : ℕ → List (List ℕ) → List ℕ → Type 0
Loads generation bodies file = IsJournal single_version generation bodies file

abbrev pub LoadsEither : ℕ → List (List ℕ) → List ℕ → List ℕ → Type 0
LoadsEither generation bodies body file = IsEither single_version generation bodies body file

abbrev pub IsReady : Meaning → ℕ → List (List ℕ) → ℕ → Type 0
IsReady disk generation bodies end = StandsAs disk single_version generation bodies end

-- the file isn't made, or it is a journal without bodies
abbrev pub NotMadeOrEmpty : ℕ → List ℕ → Type 0
NotMadeOrEmpty generation file = (is_made file ≡ false) ⊎ Loads generation [] file
