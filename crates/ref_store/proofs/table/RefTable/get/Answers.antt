use Rattle.std.proofs.Common.{ap, ◌∙◌}
use Rattle.std.specs.FinMap as map
use Rattle.ref_store.specs.Slots.{Slots}
use Rattle.ref_store.proofs.Places.{found}
use Rattle.ref_store.proofs.table.RefTable.get.Goals as goal

pub returns : goal.returns
returns c = c.copied.ensures ∙ c.get.ensures.value
    ∙ found c.self.inside.slots.entries c.of.result c.args.name.now c.of.ensures
    ∙ ap (λ (m : Slots). map.get m c.args.name.now) c.self.view_is
