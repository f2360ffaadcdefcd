-- Where a range of keys begins, and the first of its entries.
use Rattle.std.specs.Prelude.{List, [], ◌∷◌, Option, None, Some}
use Rattle.std.specs.declared.ops.Bound.{Bound}
use Rattle.std.specs.declared.ops.Bound.TheVariants.{Excluded, Unbounded}

-- after a key, or before all
abbrev pub start_of : {K : Type 0} → Option K → Bound K
start_of None = Unbounded
start_of (Some key) = Excluded key

-- the key of the first of some entries
abbrev pub first_key : {K V : Type 0} → List (K × V) → Option K
first_key [] = None
first_key (e ∷ es) = Some e.0
