use Rattle.std.proofs.Common.{ap, sym, ◌∙◌}
use Rattle.std.specs.FinMap as map
use Rattle.ddc_names.specs.Orders.{name_cmp, name_total}
use Rattle.ddc_state.proofs.Given.{get_read}
use Rattle.ddc_state.proofs.spaces.SpaceTable.get.Goals as goal

pub returns : goal.returns
returns g c = c.get.ensures.value ∙ sym (get_read name_cmp name_total c.self.inside.rows.entries c.args.space.now) ∙ ap (λ m. map.get m c.args.space.now) c.self.view_is
