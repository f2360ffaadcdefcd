use Rattle.std.proofs.Common.{◌≡◌, ◌+◌, ◌≤◌}
use Rattle.ddc_model.specs.Closure.{links_in}
use Rattle.needs_resolver.specs.Walking.{AreRead, met_of, most_reads}
use Rattle.needs_resolver.proofs.closure_walk.ClosureWalk.read_all.Given as goal

abbrev pub invariant-loop-held : goal.invariant-loop-held
invariant-loop-held l = record {
  same : l.index.state ≡ l.fn.index.state;
  counted : l.index.reads + most_reads l.fn.index.state l.space (met_of l.self) ≤ l.fn.index.reads + most_reads l.fn.index.state l.space (met_of l.fn.self);
  read : AreRead (links_in l.fn.index.state l.space) (met_of l.fn.self) (met_of l.self);
}

abbrev pub decreases-loop-held : goal.decreases-loop-held
decreases-loop-held l = most_reads l.fn.index.state l.space (met_of l.self)
