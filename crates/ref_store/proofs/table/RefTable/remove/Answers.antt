use Rattle.std.proofs.Common.{ap, ◌∙◌}
use Rattle.std.specs.FinMap as map
use Rattle.ref_store.specs.Slots.{Slots}
use Rattle.ref_store.proofs.Places.{found, one_removed, count_removed}
use Rattle.ref_store.proofs.table.RefTable.remove.Goals as goal

pub invariant_of-self : goal.invariant_of-self
invariant_of-self c = count_removed c.self.inside.slots.entries c.remove.new.self.entries c.args.name.now c.remove.result
    (one_removed c.self.inside.slots.entries c.remove.new.self.entries c.of.result c.args.name.now c.of.ensures c.remove.ensures.updates.0)
    (c.remove.ensures.value ∙ found c.self.inside.slots.entries c.of.result c.args.name.now c.of.ensures)
    c.remove.ensures.len c.self.invariant

pub returns-clause-slot : goal.returns-clause-slot
returns-clause-slot c = c.remove.ensures.value
    ∙ found c.self.inside.slots.entries c.of.result c.args.name.now c.of.ensures
    ∙ ap (λ (m : Slots). map.get m c.args.name.now) c.self.view_is

pub returns-clause-gone : goal.returns-clause-gone
returns-clause-gone c =
    one_removed c.self.inside.slots.entries c.remove.new.self.entries c.of.result c.args.name.now c.of.ensures c.remove.ensures.updates.0
    ∙ ap (λ (m : Slots). map.remove m c.args.name.now) c.self.view_is
