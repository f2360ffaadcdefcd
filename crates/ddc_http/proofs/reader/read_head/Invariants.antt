use Rattle.std.proofs.Common.{◌≡◌, ◌⊎◌, ◌-◌, length}
use Rattle.std.specs.Io.KnownBytes.{Keeps, prepend_known}
use Rattle.ddc_protocol.specs.Requests.{HasNoRequestText}
use Rattle.ddc_http.specs.inside.Parts.{HoldsPieces}
use Rattle.ddc_http.proofs.reader.read_head.Given as goal

abbrev pub invariant-pieces : goal.invariant-pieces
invariant-pieces g l = record {
  same : Keeps (prepend_known l.initial.held.items (g.S.Source.left l.initial.source)) (prepend_known l.held.items (g.S.Source.left l.source));
  ready : HasNoRequestText l.initial.held.items ⊎ ((l.source ≡ l.initial.source) × (l.held ≡ l.initial.held));
  pieces : ((l.source ≡ l.initial.source) × (l.held ≡ l.initial.held)) ⊎ HoldsPieces l.initial.held.items l.held.items (g.S.Source.left l.initial.source) (g.S.Source.left l.source);
  faults : g.S.Source.faults l.initial.source ≡ g.S.Source.faults l.source;
}

abbrev pub decreases-pieces : goal.decreases-pieces
decreases-pieces g l = 16384 - length l.held.items
