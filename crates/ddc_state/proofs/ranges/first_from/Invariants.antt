use Rattle.std.proofs.Common.{◌≡◌}
use Rattle.std.specs.declared.ops.Bound.TheVariants.{Unbounded}
use Rattle.std.specs.BTreeMap.Range.{entries_between}
use Rattle.ddc_state.specs.inside.Ranges.{first_key}
use Rattle.ddc_state.proofs.ranges.first_from.Given as goal

abbrev pub invariant-loop-key : goal.invariant-loop-key
invariant-loop-key g l = first_key l.key-iterator ≡ first_key (entries_between g.K.Ord.cmp l.fn.start Unbounded l.map.entries)
