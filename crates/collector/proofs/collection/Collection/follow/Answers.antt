use Rattle.std.proofs.Common.{ap, ◌∙◌, ◌≡◌, [], refl}
use Rattle.std.specs.Option.{unwrap_or}
use Rattle.ddc_model.specs.Closure.{links_in, LeadsTo}
use Rattle.collector.proofs.Turning.{follows_met, follows_safe, none_met, binary_leads_nowhere}
use Rattle.collector.proofs.collection.Collection.follow.Goals as goal

pub returns-in-Object-clause-met : goal.returns-in-Object-clause-met
returns-in-Object-clause-met c =
    let state = c.args.index.now.state in
    let e : c.links.result.1.now ≡ unwrap_or (links_in state c.args.self.now.space c.args.node.hash) [] =
    c.links.ensures.links ∙ ap (λ sp. unwrap_or (links_in state sp c.args.node.hash) []) c.space-space.ensures in
    follows_met (links_in state c.args.self.now.space) c.args.node c.links.result.1.now c.args.self.now c.meet_all.new.self c.in-Object.is e c.meet_all.ensures.met

pub returns-in-Object-clause-safe : goal.returns-in-Object-clause-safe
returns-in-Object-clause-safe c =
    let state = c.args.index.now.state in
    let e : c.links.result.1.now ≡ unwrap_or (links_in state c.args.self.now.space c.args.node.hash) [] =
    c.links.ensures.links ∙ ap (λ sp. unwrap_or (links_in state sp c.args.node.hash) []) c.space-space.ensures in
    follows_safe (links_in state c.args.self.now.space) c.args.node c.links.result.1.now c.args.self.now c.meet_all.new.self e c.meet_all.ensures.met.hashes c.meet_all.ensures.safe

pub returns-in-Binary-clause-met : goal.returns-in-Binary-clause-met
returns-in-Binary-clause-met c = none_met (LeadsTo (links_in c.args.index.now.state c.args.self.now.space) c.args.node) c.args.self.now c.args.self.now refl

pub returns-in-Binary-clause-safe : goal.returns-in-Binary-clause-safe
returns-in-Binary-clause-safe c = binary_leads_nowhere (links_in c.args.index.now.state c.args.self.now.space) c.args.node c.args.self.now c.in-Binary.is
