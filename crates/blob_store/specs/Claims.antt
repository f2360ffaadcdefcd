-- Which units of the blob file are claimed. A unit is 4,096 bytes, and units are counted from 0.
use Rattle.std.specs.Prelude.{◌≡◌, ◌≢◌, ℕ, ◌+◌, ◌≤◌, ◌<◌, cond, nat_eq, Some, refl}
use Rattle.std.specs.Ordering.{nat_cmp}
use Rattle.std.specs.Coded.{Coded, code_by, coded×, coded_ℕ}
use Rattle.std.specs.FinMap.{FinMap, code, empty, get, insert, remove}
use Rattle.ddc_model.specs.declared.rows.Extent.{Extent}
use Rattle.ddc_model.specs.Extents.{Apart}

-- how many units the file has, and the claimed extents: by its first unit, how many units each has
pub record Claims : Type 0 where
  pub units : ℕ
  pub extents : FinMap nat_cmp ℕ

abbrev pub coded_claims : Coded Claims
coded_claims = code_by (ℕ × FinMap nat_cmp ℕ) (coded× coded_ℕ (code coded_ℕ coded_ℕ)) (λ claims. (claims.units, claims.extents)) (λ p. record { units = p.0; extents = p.1 }) (λ _. refl)

-- a file of which all units are free
abbrev pub no_claims : ℕ → Claims
no_claims units = record { units = units; extents = empty }

-- the claimed extent that begins at this unit has so many units
abbrev pub IsClaim : Claims → ℕ → ℕ → Type 0
IsClaim claims start units = get claims.extents start ≡ Some units

-- it lies in the file, and has no unit of a claimed extent
pub record IsFree (claims : Claims) (extent : Extent) : Type 0 where
  pub within : extent.start + extent.units ≤ claims.units
  pub apart : (start units : ℕ) → IsClaim claims start units → Apart extent (record { start = start; units = units })

-- it is one of the claimed extents. One of no units always is: there is nothing of it
abbrev pub IsClaimed : Claims → Extent → Type 0
IsClaimed claims extent = 0 < extent.units → IsClaim claims extent.start extent.units

-- each claimed extent has units and lies in the file, and no two of them have a unit in common
pub record AreApart (claims : Claims) : Type 0 where
  pub within : (start units : ℕ) → IsClaim claims start units → (0 < units) × (start + units ≤ claims.units)
  pub apart : (a m b n : ℕ) → IsClaim claims a m → IsClaim claims b n → a ≢ b → Apart (record { start = a; units = m }) (record { start = b; units = n })

-- the first run of so many free units: none begins before it
pub record IsFirstRun (claims : Claims) (units : ℕ) (run : Extent) : Type 0 where
  pub long : run.units ≡ units
  pub free : IsFree claims run
  pub first : (start : ℕ) → start < run.start → ¬ IsFree claims (record { start = start; units = units })

-- there is no run of so many free units
abbrev pub HasNoRun : Claims → ℕ → Type 0
HasNoRun claims units = (start : ℕ) → ¬ IsFree claims (record { start = start; units = units })

-- an extent more is claimed. One of no units changes nothing
abbrev pub with_extent : Claims → Extent → Claims
with_extent claims extent = record { units = claims.units; extents = cond (nat_eq extent.units 0) claims.extents (insert claims.extents extent.start extent.units) }

-- an extent is claimed no more. One of no units changes nothing
abbrev pub without_extent : Claims → Extent → Claims
without_extent claims extent = record { units = claims.units; extents = cond (nat_eq extent.units 0) claims.extents (remove claims.extents extent.start) }
