use Rattle.std.proofs.Common.{◌≡◌, ◌++◌, take}
use Rattle.std.specs.List.{flat_map, AllByRecursion}
use Rattle.ddc_entry.specs.Spelling.{spot, IsSpot}
use Rattle.ddc_entry.proofs.writing.push_spots.Given as goal

abbrev pub invariant-loop-place : goal.invariant-loop-place
invariant-loop-place l = (l.out.items ≡ l.initial.out.items ++ flat_map spot (take l.place-index l.spots)) × AllByRecursion IsSpot (take l.place-index l.spots)
