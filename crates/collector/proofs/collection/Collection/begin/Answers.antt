use Rattle.std.proofs.Common.{ap, ◌∙◌}
use Rattle.collector.specs.Marks.{Marks}
use Rattle.collector.proofs.Starting.{begun, begun_covers, begun_knows}
use Rattle.collector.proofs.collection.Collection.begin.Goals as goal

pub know_all-requires : goal.know_all-requires
know_all-requires c = ap (λ (m : Marks). m.hashes) c.grow.ensures ∙ c.new-collection.ensures.hashes

pub returns-clause-begun : goal.returns-clause-begun
returns-clause-begun c =
    begun c.args.index.now.state c.args.space.now c.args.leased.now c.args.hour c.grow.new.self c.know_all.new.self c.shade_pinned.new.self c.shade_slots.new.self c.shade_leased.new.self
    (ap (λ (m : Marks). m.space) c.grow.ensures ∙ c.new-collection.ensures.space) (ap (λ (m : Marks). m.hour) c.grow.ensures ∙ c.new-collection.ensures.hour) (ap (λ (m : Marks). m.ended) c.grow.ensures ∙ c.new-collection.ensures.ended) c.in_ok-know_all.ensures c.shade_pinned.ensures.roots c.shade_pinned.ensures.all
    c.in_ok-shade_slots.ensures.roots c.in_ok-shade_slots.ensures.all c.shade_leased.ensures

pub returns-clause-cover : goal.returns-clause-cover
returns-clause-cover c =
    begun_covers c.args.index.now.state c.args.space.now c.args.leased.now c.args.hour c.shade_leased.new.self
    (begun c.args.index.now.state c.args.space.now c.args.leased.now c.args.hour c.grow.new.self c.know_all.new.self c.shade_pinned.new.self c.shade_slots.new.self c.shade_leased.new.self
    (ap (λ (m : Marks). m.space) c.grow.ensures ∙ c.new-collection.ensures.space) (ap (λ (m : Marks). m.hour) c.grow.ensures ∙ c.new-collection.ensures.hour) (ap (λ (m : Marks). m.ended) c.grow.ensures ∙ c.new-collection.ensures.ended) c.in_ok-know_all.ensures c.shade_pinned.ensures.roots c.shade_pinned.ensures.all
    c.in_ok-shade_slots.ensures.roots c.in_ok-shade_slots.ensures.all c.shade_leased.ensures)

pub returns-clause-known : goal.returns-clause-known
returns-clause-known c =
    begun_knows c.args.index.now.state c.args.space.now c.args.leased.now c.args.hour c.shade_leased.new.self
    (begun c.args.index.now.state c.args.space.now c.args.leased.now c.args.hour c.grow.new.self c.know_all.new.self c.shade_pinned.new.self c.shade_slots.new.self c.shade_leased.new.self
    (ap (λ (m : Marks). m.space) c.grow.ensures ∙ c.new-collection.ensures.space) (ap (λ (m : Marks). m.hour) c.grow.ensures ∙ c.new-collection.ensures.hour) (ap (λ (m : Marks). m.ended) c.grow.ensures ∙ c.new-collection.ensures.ended) c.in_ok-know_all.ensures c.shade_pinned.ensures.roots c.shade_pinned.ensures.all
    c.in_ok-shade_slots.ensures.roots c.in_ok-shade_slots.ensures.all c.shade_leased.ensures)
