-- Bytes that arrive in pieces, up to a limit.
use Rattle.std.specs.Prelude.{ℕ, ◌+◌, ◌≤◌, ◌<◌, ◌≡◌, List, ◌++◌, length}
use Rattle.io_hash.specs.declared.intake.IntakeFault.{IntakeFault}
use Rattle.io_hash.specs.declared.intake.IntakeFault.TheVariants.{NoMemory, TooLarge}

-- what a contract sees of an intake: the limit of its length, and the bytes that it has taken
pub record Taken : Type 0 where
  pub limit : ℕ
  pub bytes : List ℕ

-- the intake with a piece more
abbrev pub with_piece : Taken → List ℕ → Taken
with_piece intake piece = record { limit = intake.limit; bytes = intake.bytes ++ piece }

-- the piece fits the limit
abbrev pub FitsLimit : Taken → List ℕ → Type 0
FitsLimit intake piece = length intake.bytes + length piece ≤ intake.limit

-- why an intake refuses a piece: TooLarge names the limit, exactly where the piece doesn't fit it
abbrev pub Refuses : Taken → List ℕ → IntakeFault → Type 0
Refuses intake piece (TooLarge limit) = (limit ≡ intake.limit) × (intake.limit < length intake.bytes + length piece)
Refuses intake piece NoMemory = FitsLimit intake piece
