-- What is read of the values of the fields of one name.
use Rattle.std.specs.Prelude.{◌≡◌, ℕ, List, [], ◌∷◌}
use Rattle.ddc_http.specs.declared.fields.Values.{Values}
use Rattle.ddc_http.specs.declared.fields.Values.TheVariants.{Absent, Once, Repeated}

-- no value, the only one, or the first of several
abbrev pub AreValues : List (List ℕ) → Values → Type 0
AreValues values Absent = values ≡ []
AreValues values (Once value) = values ≡ value.now ∷ []
AreValues values (Repeated value) = (other : List ℕ) × (others : List (List ℕ)) × (values ≡ value.now ∷ other ∷ others)
