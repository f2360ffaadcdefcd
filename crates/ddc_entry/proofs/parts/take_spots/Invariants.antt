use Rattle.std.proofs.Common.{◌≡◌, ◌-◌}
use Rattle.ddc_entry.specs.inside.Reading.{spot_at, many_at}
use Rattle.ddc_entry.proofs.Many.{behind}
use Rattle.ddc_entry.proofs.parts.take_spots.Given as goal

abbrev pub invariant-loop : goal.invariant-loop
invariant-loop l = behind l.spots.items (many_at spot_at (l.count - l.counter) l.rest) ≡ many_at spot_at l.count l.bytes
