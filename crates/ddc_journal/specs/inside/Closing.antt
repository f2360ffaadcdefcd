-- What a file is while a journal is made in it.
use Rattle.std.specs.Prelude.{◌≡◌, ◌≢◌, ◌⊎◌, ◌<◌, ◌≤◌, ◌^◌, ℕ, false, List, [], ◌∷◌, ◌++◌, length}
use Rattle.ddc_disk.specs.Disk.{Meaning, IsSure}
use Rattle.ddc_journal.specs.Journal.{items, head_bytes, AreSized, IsJournal, is_made, rank}

abbrev pub IsUnmade : List ℕ → Type 0
IsUnmade file = is_made file ≡ false

-- 20 bytes and a gate that isn't open stand at the front, and the disk is sure of its file
pub record IsClosed (disk : Meaning) : Type 0 where
  pub front : List ℕ
  pub gate : ℕ
  pub rest : List ℕ
  pub size : length front ≡ 20
  pub closed : gate ≢ 1
  pub sure : IsSure disk (front ++ gate ∷ rest)

-- these bytes are the items of a journal and its closing gate
pub record AreItems (generation : ℕ) (bodies : List (List ℕ)) (bytes : List ℕ) : Type 0 where
  pub split : bytes ≡ items bodies ++ 0 ∷ []
  pub numbered : (0 < generation) × (generation < 2 ^ 64)
  pub sized : AreSized bodies

-- all of a journal is sure but its gate, which isn't open; these bytes stand where its items begin
pub record IsFilled (disk : Meaning) (version generation : ℕ) (bytes : List ℕ) : Type 0 where
  pub gate : ℕ
  pub rest : List ℕ
  pub closed : gate ≢ 1
  pub sure : IsSure disk (head_bytes version generation ++ gate ∷ (bytes ++ rest))

-- the old file, or what is left of it, has no greater generation; or the file is the new journal
abbrev pub IsRemade : ℕ → ℕ → List (List ℕ) → List ℕ → List ℕ → Type 0
IsRemade version generation bodies old file = (rank file ≤ rank old) ⊎ IsJournal version generation bodies file

-- a disk that is sure of a journal of these bodies
pub record IsSureOf (disk : Meaning) (version generation : ℕ) (bodies : List (List ℕ)) : Type 0 where
  pub file : List ℕ
  pub sure : IsSure disk file
  pub loads : IsJournal version generation bodies file
