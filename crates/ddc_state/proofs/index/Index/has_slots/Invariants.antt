use Rattle.std.proofs.Common.{◌≡◌, drop}
use Rattle.ddc_model.specs.Entries.{has_slots}
use Rattle.ddc_state.proofs.index.Index.has_slots.Given as goal

abbrev pub invariant-loop-spot : goal.invariant-loop-spot
invariant-loop-spot l = has_slots l.self.state l.space (drop l.spot-index l.spots) ≡ has_slots l.self.state l.space l.spots
