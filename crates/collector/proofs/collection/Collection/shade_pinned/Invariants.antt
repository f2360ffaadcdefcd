use Rattle.std.proofs.Common.{◌≡◌}
use Rattle.collector.specs.inside.Starts.{GreyRoots, ArePinnedGreyTo}
use Rattle.collector.proofs.collection.Collection.shade_pinned.Given as goal

abbrev pub invariant-loop-number : goal.invariant-loop-number
invariant-loop-number l = record {
  roots : GreyRoots l.index.state l.fn.self l.self;
  all : ArePinnedGreyTo l.index.state l.fn.self l.number l.self;
  space : l.space ≡ l.fn.self.space;
  hour : l.hour ≡ l.fn.self.hour;
}
