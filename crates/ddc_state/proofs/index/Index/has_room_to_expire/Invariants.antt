use Rattle.std.proofs.Common.{◌≡◌, ◌+◌, ◌≤◌, drop}
use Rattle.ddc_model.specs.Entries.{count_all_deleted}
use Rattle.ddc_state.proofs.index.Index.has_room_to_expire.Given as goal

abbrev pub invariant-loop-spot : goal.invariant-loop-spot
invariant-loop-spot l = record {
  few : l.count ≤ l.spot-index;
  counted : l.count + count_all_deleted l.self.state l.space (drop l.spot-index l.spots) ≡ count_all_deleted l.self.state l.space l.spots;
}
