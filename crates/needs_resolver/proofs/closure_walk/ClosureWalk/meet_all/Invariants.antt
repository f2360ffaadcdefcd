use Rattle.std.proofs.Common.{◌≤◌}
use Rattle.ddc_model.specs.Closure.{links_in}
use Rattle.needs_resolver.specs.Walking.{AreMet, met_of, most_reads}
use Rattle.needs_resolver.proofs.closure_walk.ClosureWalk.meet_all.Given as goal

abbrev pub invariant-loop-node : goal.invariant-loop-node
invariant-loop-node l = record {
  met : AreMet (links_in l.index.state l.space) l.nodes l.node-index (met_of l.initial.self) (met_of l.self);
  less : most_reads l.index.state l.space (met_of l.self) ≤ most_reads l.index.state l.space (met_of l.initial.self);
}
