use Rattle.std.proofs.Common.{◌≡◌, ◌≤◌, length}
use Rattle.collector.specs.inside.Sweeps.{AreSweptTo}
use Rattle.collector.proofs.collection.Collection.loose_blobs.Given as goal

abbrev pub invariant-loop : goal.invariant-loop
invariant-loop l = record {
  swept : AreSweptTo l.index.state l.self l.last l.hashes;
  at_most : length l.hashes ≤ l.limit;
  space : l.space ≡ l.self.space;
}
