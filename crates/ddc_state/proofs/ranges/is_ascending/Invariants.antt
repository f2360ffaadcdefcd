use Rattle.std.proofs.Common.{◌≡◌, ◌-◌, drop}
use Rattle.ddc_model.specs.Entries.{ascends}
use Rattle.ddc_state.proofs.ranges.is_ascending.Given as goal

abbrev pub invariant-loop-i : goal.invariant-loop-i
invariant-loop-i g l = ascends g.K.Ord.cmp (drop (l.i - 1) l.keys) ≡ ascends g.K.Ord.cmp l.keys
