use Rattle.std.proofs.Common.{List, length, subst}
use Rattle.cb_fields.specs.declared.links.Link.{Link}
use Rattle.ddc_model.specs.State.{State}
use Rattle.ddc_model.specs.Closure.{links_in}
use Rattle.needs_resolver.specs.Walking.{AreMet, met_of}
use Rattle.needs_resolver.proofs.Reading.{read_any}
use Rattle.needs_resolver.proofs.closure_walk.ClosureWalk.read.Goals as goal

pub returns-clause-read : goal.returns-clause-read
returns-clause-read c =
    let links = links_in c.args.index.now.state c.args.space.now in
    let old = met_of c.args.self.now in
    let new = met_of c.meet_all.new.self in
    let found = c.links.result.1.now in
    read_any links c.args.held old new
    (subst (λ (nodes : List Link). AreMet links nodes (length nodes) old new) c.links.ensures.links
    (subst (λ (state : State). AreMet (links_in state c.args.space.now) found (length found) old new) c.links.ensures.index c.in_ok-meet_all.ensures.met))
