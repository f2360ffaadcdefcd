use Rattle.std.proofs.Common.{subst, ◌≡◌, List, ℕ, true}
use Rattle.cb_fields.specs.declared.links.Link.{Link}
use Rattle.ddc_model.specs.Closure.{links_in, LeadsTo}
use Rattle.collector.specs.Marks.{knows, is_safe}
use Rattle.collector.specs.inside.Steps.{IsPicked, AreMetBy}
use Rattle.collector.proofs.Turning.{taken_from}
use Rattle.collector.proofs.collection.Collection.take_one.Goals as goal

pub returns-clause-taken : goal.returns-clause-taken
returns-clause-taken c =
    let state = c.args.index.now.state in
    let old = c.args.self.now in
    let mid = c.pick.new.self in
    let new = c.follow.new.self in
    let node = c.in-Some.node in
    let picked : IsPicked old node mid = c.in-Some.ensures in (
      node,
      taken_from (links_in state old.space) old mid new node picked
          (subst (λ (sp : List ℕ). AreMetBy (LeadsTo (links_in state sp) node) mid new) picked.same.space c.follow.ensures.met)
          (subst (λ (sp : List ℕ). (other : Link) → LeadsTo (links_in state sp) node other → knows mid other.hash ≡ true → is_safe new other ≡ true) picked.same.space c.follow.ensures.safe),
    )
