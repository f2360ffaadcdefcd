use Rattle.std.proofs.Common.{◌≡◌, ◌-◌}
use Rattle.ddc_entry.specs.inside.Reading.{hash_at, many_at}
use Rattle.ddc_entry.proofs.Many.{behind}
use Rattle.ddc_entry.proofs.parts.take_hashes.Given as goal

abbrev pub invariant-loop : goal.invariant-loop
invariant-loop l = behind l.hashes.items (many_at hash_at (l.count - l.counter) l.rest) ≡ many_at hash_at l.count l.bytes
