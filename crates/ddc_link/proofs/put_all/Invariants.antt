use Rattle.std.proofs.Common.{◌≡◌, ℕ, List, ◌++◌, length}
use Rattle.std.specs.Io.KnownBytes.{Appends}
use Rattle.ddc_link.proofs.put_all.Given as goal

abbrev pub invariant-pieces : goal.invariant-pieces
invariant-pieces g l = record {
  done : (front : List ℕ) × (l.bytes ≡ front ++ l.rest) × Appends (g.W.Sink.written l.initial.sink) (g.W.Sink.written l.sink) front;
  same : g.W.Sink.faults l.initial.sink ≡ g.W.Sink.faults l.sink;
}

abbrev pub decreases-pieces : goal.decreases-pieces
decreases-pieces g l = length l.rest
