use Rattle.std.proofs.Common.{◌≤◌, arith}
use Rattle.std.proofs.lemmas.List.{get_or_default}
use Rattle.ddc_model.specs.Closure.{links_in}
use Rattle.needs_resolver.specs.Walking.{met_of, most_reads}
use Rattle.needs_resolver.proofs.Meeting.{one_more}
use Rattle.needs_resolver.proofs.closure_walk.ClosureWalk.meet_all.Goals as goal

pub loop-node-preserved : goal.loop-node-preserved
loop-node-preserved c =
    let state = c.args.index.now.state in
    let before : most_reads state c.args.space.now (met_of c.loop-node.self) ≤ most_reads state c.args.space.now (met_of c.args.self.now) = c.loop-node.invariant.less in
    let then : most_reads state c.args.space.now (met_of c.meet.new.self) ≤ most_reads state c.args.space.now (met_of c.loop-node.self) = c.in_ok-meet.ensures.less in
    record {
      met = one_more (links_in state c.args.space.now) c.args.nodes.now c.loop-node.node-index _ (met_of c.args.self.now) (met_of c.loop-node.self) (met_of c.meet.new.self) c.loop-node-test.true
          (λ d. get_or_default c.args.nodes.now c.loop-node.node-index d _ c.loop-node-test.true) c.loop-node.invariant.met c.in_ok-meet.ensures.met;
      less = omega arith;
    }
