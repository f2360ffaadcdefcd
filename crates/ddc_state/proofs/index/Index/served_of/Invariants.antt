use Rattle.std.proofs.Common.{◌≡◌, ◌++◌, drop}
use Rattle.ddc_state.specs.inside.Expired.{served_of}
use Rattle.ddc_state.proofs.index.Index.served_of.Given as goal

abbrev pub invariant-loop-spot : goal.invariant-loop-spot
invariant-loop-spot l = l.served ++ served_of l.self.state.slots l.space (drop l.spot-index l.spots) ≡ served_of l.self.state.slots l.space l.spots
