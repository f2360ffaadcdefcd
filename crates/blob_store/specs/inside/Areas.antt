-- The claimed extents among the units of a range: none, one, or more, parted at its middle unit.
use Rattle.std.specs.Prelude.{◌≡◌, ℕ, ◌+◌, ◌-◌, ◌/◌, ◌≤◌, ◌<◌, List, [], ◌∷◌, ◌++◌, length, Some}
use Rattle.ddc_model.specs.declared.rows.Extent.{Extent}
use Rattle.blob_store.specs.declared.area.Area.{Area}
use Rattle.blob_store.specs.declared.area.Area.TheVariants.{Empty, One, Parted'}
use Rattle.blob_store.specs.declared.held.Held.{Held}
use Rattle.blob_store.specs.declared.held.Held.TheVariants.{Free, Taken}
use Rattle.blob_store.specs.inside.Runs.{AreInOrder}
use Rattle.blob_store.specs.inside.Spans.{span_of}

-- the extent that has the middle unit, as a list
abbrev pub listed_held : Held → List (ℕ × ℕ)
listed_held Free = []
listed_held (Taken units start) = (start, units) ∷ []

-- the extents of an area, in order
abbrev pub extents_in : Area → List (ℕ × ℕ)
extents_in Empty = []
extents_in (One units start) = (start, units) ∷ []
extents_in (Parted' p held span left right) = extents_in left ++ (listed_held held ++ extents_in right)

-- the middle unit of a range
abbrev pub middle_unit : ℕ → ℕ → ℕ
middle_unit low high = low + (high - low) / 2

-- the extent has the middle unit
abbrev pub HasMiddle : ℕ → Extent → Type 0
HasMiddle mid extent = (extent.start ≤ mid) × (mid < extent.start + extent.units)

-- the extent that stands at the middle unit has it
abbrev pub IsHeldAt : ℕ → Held → Type 0
IsHeldAt mid Free = Unit {0}
IsHeldAt mid (Taken units start) = HasMiddle mid (record { start = start; units = units })

-- the extents lie in the range in order, and in a parted area the one that has the middle unit stands there
abbrev pub IsPlaced : ℕ → ℕ → Area → Type 0
IsPlaced low high Empty = Unit {0}
IsPlaced low high (One units start) = AreInOrder low high ((start, units) ∷ [])
IsPlaced low high (Parted' p held span left right) =
    AreInOrder low high (extents_in left ++ (listed_held held ++ extents_in right))
    × IsHeldAt (middle_unit low high) held
    × AreInOrder low (middle_unit low high) (extents_in left)
    × AreInOrder (middle_unit low high + 1) high (extents_in right)
    × IsPlaced low (middle_unit low high) left
    × IsPlaced (middle_unit low high + 1) high right

-- each parted area has the span of its extents, and two of them or more
abbrev pub AreSpanned : Area → Type 0
AreSpanned Empty = Unit {0}
AreSpanned (One units start) = Unit {0}
AreSpanned (Parted' p held span left right) =
    (Some span ≡ span_of (extents_in left ++ (listed_held held ++ extents_in right)))
    × AreSpanned left
    × AreSpanned right
    × (2 ≤ length (extents_in left ++ (listed_held held ++ extents_in right)))
