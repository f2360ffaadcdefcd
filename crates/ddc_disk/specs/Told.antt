-- What follows on a disk that tells what it holds.
use Rattle.std.specs.Prelude.{◌≡◌, ℕ, List, Option, Some, None, IsSome, IfSome}
use Rattle.std.proofs.Common.{subst}

-- what it holds
pub told_file : (held : Option (List ℕ)) → IsSome held → (file : List ℕ) × (held ≡ Some file)
told_file None none = cc none
told_file (Some file) some = (file, λ i. Some file)

-- what is said of the file that it tells, holds of this one
pub at_told : (held : Option (List ℕ)) (P : List ℕ → Type 0) (file : List ℕ) → held ≡ Some file → IfSome held P → P file
at_told held P file is holds = let Q : Option (List ℕ) → Type 0 = λ x. IfSome x P in subst Q is holds
