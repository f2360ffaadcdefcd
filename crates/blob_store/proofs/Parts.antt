-- An area that is parted: the extents on the two sides of the middle unit, and the one that has it.
use Rattle.std.specs.Prelude.{◌≡◌, ℕ, ◌+◌, ◌≤◌, ◌<◌, List, ◌++◌, length, Some}
use Rattle.std.proofs.Common.{sym, ap, subst, ◌∙◌, arith}
use Rattle.blob_store.specs.declared.area.Area.{Area}
use Rattle.blob_store.specs.declared.area.Area.TheVariants.{Empty, One, Parted'}
use Rattle.blob_store.specs.declared.area.PartedArea.{PartedArea}
use Rattle.blob_store.specs.inside.Areas.{extents_in, listed_held, AreSpanned}
use Rattle.blob_store.specs.inside.Spans.{span_of}

-- how many parts an area has
abbrev pub count_parts : Area → ℕ
count_parts Empty = 0
count_parts (One units start) = 0
count_parts (Parted' p held span left right) = count_parts left + count_parts right + 1

abbrev pub parts_in : PartedArea → List (ℕ × ℕ)
parts_in parted = extents_in parted.left ++ (listed_held parted.held ++ extents_in parted.right)

abbrev pub ArePartsSpanned : PartedArea → Type 0
ArePartsSpanned parted = (Some parted.span ≡ span_of (parts_in parted)) × AreSpanned parted.left × AreSpanned parted.right × (2 ≤ length (parts_in parted))

abbrev count_in : PartedArea → ℕ
count_in parted = count_parts parted.left + count_parts parted.right + 1

-- what is known of a parted area by its parts
pub record Opened (area : Area) (parted : PartedArea) : Type 0 where
  pub full : extents_in area ≡ parts_in parted
  pub spans : ArePartsSpanned parted
  pub left : count_parts parted.left < count_parts area
  pub right : count_parts parted.right < count_parts area

pub opened : (area view : Area) (parted inside : PartedArea) → area ≡ view → parted ≡ inside → extents_in view ≡ parts_in inside → (AreSpanned view → ArePartsSpanned inside) → count_parts view ≡ count_in inside → AreSpanned area → Opened area parted
opened area view parted inside is same full spans count s =
    let counted : count_parts area ≡ count_in parted = ap count_parts is ∙ count ∙ ap count_in (sym same) in
    record {
      full = ap extents_in is ∙ full ∙ ap parts_in (sym same);
      spans = subst ArePartsSpanned (sym same) (spans (subst AreSpanned is s));
      left = omega (arith, counted);
      right = omega (arith, counted);
    }
