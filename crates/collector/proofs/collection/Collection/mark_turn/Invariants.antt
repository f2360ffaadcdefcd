use Rattle.std.proofs.Common.{◌≡◌, ◌+◌, ◌-◌, ◌≤◌}
use Rattle.ddc_model.specs.Closure.{links_in}
use Rattle.collector.specs.Turns.{AreTaken}
use Rattle.collector.proofs.collection.Collection.mark_turn.Given as goal

abbrev pub invariant-loop-taken : goal.invariant-loop-taken
invariant-loop-taken l = record {
  state : l.index.state ≡ l.fn.index.state;
  reads : l.index.reads ≤ l.fn.index.reads + l.taken;
  at_most : l.taken ≤ l.limit;
  taken : AreTaken (links_in l.fn.index.state l.fn.self.space) l.fn.self l.taken l.self;
}

abbrev pub decreases-loop-taken : goal.decreases-loop-taken
decreases-loop-taken l = l.limit - l.taken
