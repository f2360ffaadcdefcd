use Rattle.std.proofs.Common.{◌≡◌, ◌≤◌, ◌-◌, ◌++◌, ℕ, List, length}
use Rattle.std.specs.Io.KnownBytes.{Keeps, Consumes, prepend_known}
use Rattle.ddc_protocol.specs.Requests.{HasNoHead}
use Rattle.ddc_http.proofs.reader.fill.Given as goal

abbrev pub invariant-pieces : goal.invariant-pieces
invariant-pieces g l = record {
  same : Keeps (prepend_known l.initial.held.items (g.S.Source.left l.initial.source)) (prepend_known l.held.items (g.S.Source.left l.source));
  headless : HasNoHead l.held.items;
  took : (front : List ℕ) × (l.held.items ≡ l.initial.held.items ++ front) × Consumes (g.S.Source.left l.initial.source) (g.S.Source.left l.source) front;
  longer : length l.initial.held.items ≤ length l.held.items;
  faults : g.S.Source.faults l.initial.source ≡ g.S.Source.faults l.source;
}

abbrev pub decreases-pieces : goal.decreases-pieces
decreases-pieces g l = 16384 - length l.held.items
