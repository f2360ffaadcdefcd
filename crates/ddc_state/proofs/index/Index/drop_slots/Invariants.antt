use Rattle.std.proofs.Common.{◌≡◌, drop}
use Rattle.ddc_state.specs.inside.Expired.{without_slots_of}
use Rattle.ddc_state.proofs.index.Index.drop_slots.Given as goal

abbrev pub invariant-loop-spot : goal.invariant-loop-spot
invariant-loop-spot l = without_slots_of l.space l.self (drop l.spot-index l.spots) ≡ without_slots_of l.space l.initial.self l.spots
