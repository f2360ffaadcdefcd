use Rattle.std.proofs.Common.{◌≡◌}
use Rattle.std.specs.List.{slice_get}
use Rattle.std.specs.declared.ops.Bound.TheVariants.{Unbounded}
use Rattle.std.specs.BTreeMap.Range.{entries_between}
use Rattle.ref_store.specs.inside.Places.{place_cmp, by_names}
use Rattle.ref_store.proofs.ranges.first_from.Given as goal

abbrev pub invariant-loop-place : goal.invariant-loop-place
invariant-loop-place l = slice_get (by_names l.place-iterator) 0 ≡ slice_get (by_names (entries_between place_cmp l.fn.start Unbounded l.slots.entries)) 0
