use Rattle.std.proofs.Common.{◌≡◌, ◌⊎◌, ◌≤◌, ◌<◌, ◌+◌, ◌++◌, ℕ, List, [], length, take}
use Rattle.std.specs.Io.KnownBytes.{Consumes, prepend_known}
use Rattle.ddc_http.specs.Reader.{TakesPieces}
use Rattle.ddc_http.proofs.reader.take_body.Given as goal

abbrev pub invariant-pieces : goal.invariant-pieces
invariant-pieces g l = record {
  taken : Consumes (prepend_known l.fn.held.items (g.S.Source.left l.fn.source)) (prepend_known l.held.items (g.S.Source.left l.source)) (take l.len l.fn.held.items ++ l.intake.bytes);
  limit : l.intake.limit ≡ l.size;
  counted : length l.intake.bytes + l.wanted ≡ l.size;
  bare : 0 < l.wanted → l.held.items ≡ [];
  ready : l.len + l.size ≤ length l.fn.held.items → (l.wanted ≡ 0) × (l.source ≡ l.fn.source);
  took : (taken : List ℕ) × Consumes (g.S.Source.left l.fn.source) (g.S.Source.left l.source) taken × (0 < l.wanted → l.fn.held.items ++ taken ≡ take l.len l.fn.held.items ++ l.intake.bytes);
  pieces : (l.source ≡ l.fn.source) ⊎ TakesPieces l.fn.held.items (g.S.Source.left l.fn.source) (g.S.Source.left l.source);
  faults : g.S.Source.faults l.fn.source ≡ g.S.Source.faults l.source;
}

abbrev pub decreases-pieces : goal.decreases-pieces
decreases-pieces g l = l.wanted
