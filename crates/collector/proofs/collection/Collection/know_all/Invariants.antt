use Rattle.std.proofs.Common.{◌≡◌}
use Rattle.collector.specs.inside.Starts.{AreKnownTo}
use Rattle.collector.proofs.collection.Collection.know_all.Given as goal

abbrev pub invariant-loop : goal.invariant-loop
invariant-loop l = record {
  known : AreKnownTo l.index.state l.fn.self l.last l.self;
  space : l.space ≡ l.fn.self.space;
}
