use Rattle.std.proofs.Common.{ap, ◌∙◌}
use Rattle.std.specs.FinMap as map
use Rattle.ddc_names.specs.Orders.{name_cmp, name_total, name_exact}
use Rattle.ddc_state.proofs.Given.{one_given, count_given}
use Rattle.ddc_state.proofs.spaces.SpaceTable.set.Goals as goal

pub invariant_of-self-2 : goal.invariant_of-self-2
invariant_of-self-2 g c = count_given name_cmp name_total c.self.inside.rows.entries c.insert.new.self.entries c.args.space.now c.args.row c.in_ok-insert.field-0
    (one_given name_cmp name_total name_exact c.self.inside.rows.entries c.insert.new.self.entries c.args.space.now c.args.row c.in_ok-insert.ensures.updates.0)
    c.in_ok-insert.ensures.old c.in_ok-insert.ensures.len c.self.invariant

pub returns-clause-ok : goal.returns-clause-ok
returns-clause-ok g c = one_given name_cmp name_total name_exact c.self.inside.rows.entries c.insert.new.self.entries c.args.space.now c.args.row c.in_ok-insert.ensures.updates.0
    ∙ ap (λ m. map.insert m c.args.space.now c.args.row) c.self.view_is
