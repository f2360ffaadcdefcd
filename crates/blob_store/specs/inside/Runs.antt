-- Extents one after another, each as its first unit and how many units it has.
use Rattle.std.specs.Prelude.{ℕ, ◌+◌, ◌≤◌, ◌<◌, ◌⊎◌, cond, not, nat_le, nat_lt, List, [], ◌∷◌, Option, None, Some}
use Rattle.std.specs.Ordering.{nat_cmp, eq_by_cmp}
use Rattle.std.specs.List.{filter}
use Rattle.ddc_model.specs.declared.rows.Extent.{Extent}

-- they follow one another between two units, and each has units
abbrev pub AreInOrder : ℕ → ℕ → List (ℕ × ℕ) → Type 0
AreInOrder low high [] = Unit {0}
AreInOrder low high (e ∷ es) = (low ≤ e.0) × (0 < e.1) × (e.0 + e.1 ≤ high) × AreInOrder (e.0 + e.1) high es

-- the extent ends before another begins, or begins after it ends
abbrev pub Misses : Extent → ℕ × ℕ → Type 0
Misses extent e = (extent.start + extent.units ≤ e.0) ⊎ (e.0 + e.1 ≤ extent.start)

-- the extent misses each of them
abbrev pub MissesAll : Extent → List (ℕ × ℕ) → Type 0
MissesAll extent [] = Unit {0}
MissesAll extent (e ∷ es) = Misses extent e × MissesAll extent es

-- the extent has units and lies between two units
pub record LiesWithin (low high : ℕ) (extent : Extent) : Type 0 where
  pub above : low ≤ extent.start
  pub some : 0 < extent.units
  pub below : extent.start + extent.units ≤ high

-- all but the one that begins at a unit
abbrev pub without : ℕ → List (ℕ × ℕ) → List (ℕ × ℕ)
without start es = filter (λ e. not (eq_by_cmp nat_cmp start e.0)) es

-- the first that ends after a unit
abbrev pub next_after : ℕ → List (ℕ × ℕ) → Option Extent
next_after at [] = None
next_after at (e ∷ es) = cond (nat_lt at (e.0 + e.1)) (Some (record { start = e.0; units = e.1 })) (next_after at es)

-- where so many units fit first before one of them, from a unit on
abbrev pub first_gap : ℕ → ℕ → List (ℕ × ℕ) → Option ℕ
first_gap from units [] = None
first_gap from units (e ∷ es) = cond (nat_le (from + units) e.0) (Some from) (first_gap (e.0 + e.1) units es)

-- the unit after the last, or the given one
abbrev pub end_of : ℕ → List (ℕ × ℕ) → ℕ
end_of from [] = from
end_of from (e ∷ es) = end_of (e.0 + e.1) es
