use Rattle.std.proofs.Common.{subst}
use Rattle.std.specs.FinMap.{get, from_entries}
use Rattle.std.specs.Map.{lookup}
use Rattle.std.specs.BTreeMap.{is_at}
use Rattle.ddc_names.specs.Orders.{name_cmp, name_total, name_exact}
use Rattle.ddc_state.specs.NextKeys.{NextSpace}
use Rattle.ddc_state.proofs.Given.{get_read}
use Rattle.ddc_state.proofs.NextKeys.{next_alike, next_read}
use Rattle.ddc_state.proofs.spaces.SpaceTable.next.Goals as goal

pub returns : goal.returns
returns g c =
    let es = c.self.inside.rows.entries in
    let found = c.first_from.result in
    subst (λ m. NextSpace m c.args.after found) c.self.view_is
    (next_alike name_cmp (λ q. lookup (is_at (name_cmp q)) es) (get (from_entries es)) (get_read name_cmp name_total es) c.args.after found
    (next_read name_cmp name_total name_exact es c.args.after c.start_after.result found c.first_from.ensures.ordered c.start_after.ensures c.first_from.ensures.first))
