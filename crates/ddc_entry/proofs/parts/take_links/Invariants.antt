use Rattle.std.proofs.Common.{◌≡◌, ◌-◌}
use Rattle.ddc_entry.specs.inside.Reading.{link_at, many_at}
use Rattle.ddc_entry.proofs.Many.{behind}
use Rattle.ddc_entry.proofs.parts.take_links.Given as goal

abbrev pub invariant-loop : goal.invariant-loop
invariant-loop l = behind l.links.items (many_at link_at (l.count - l.counter) l.rest) ≡ many_at link_at l.count l.bytes
