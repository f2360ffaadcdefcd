-- The fields of a request head (RFC 9110, section 5), as pairs of a name and a value.
use Rattle.std.specs.Prelude.{ℕ, Bool, ◌&&◌, List, [], ◌∷◌, length, map, Option, Some, None, if◌then◌else◌, nat_eq, nat_le}
use lib.Pointwise.{pointwise}
use Rattle.std.specs.Char.{to_ascii_lowercase}
use Rattle.std.specs.Str.{all_ascii_digits}
use Rattle.std.specs.Str.Parse.{digits_value}

-- the two texts are one
abbrev pub same_text : List ℕ → List ℕ → Bool
same_text a b = pointwise nat_eq a b

-- the two names are one, without case
abbrev pub same_name : List ℕ → List ℕ → Bool
same_name a b = same_text (map to_ascii_lowercase a) (map to_ascii_lowercase b)

-- the values of the fields of a name, in order
abbrev pub values_of : List ℕ → List (List ℕ × List ℕ) → List (List ℕ)
values_of name [] = []
values_of name (field ∷ fields) = if same_name field.0 name then field.1 ∷ values_of name fields else values_of name fields

-- the number that 1 to `most` decimal digits write
abbrev pub decimal_value : ℕ → List ℕ → Option ℕ
decimal_value most text = if nat_le 1 (length text) && nat_le (length text) most && all_ascii_digits text then Some (digits_value 10 text) else None
