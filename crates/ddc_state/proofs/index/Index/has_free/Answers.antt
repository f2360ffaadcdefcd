use Rattle.std.proofs.Common.{◌≡◌, subst}
use Rattle.ddc_model.specs.Extents.{is_free}
use Rattle.ddc_state.specs.Views.{IndexView}
use Rattle.ddc_state.specs.contracts.index.Index.{the_view}
use Rattle.ddc_state.proofs.FreeUnits.{tests_agree}
use Rattle.ddc_state.proofs.index.Index.has_free.Goals as goal

pub returns : goal.returns
returns c =
    subst (λ (index : IndexView). c.is_free.result ≡ is_free index.state c.args.extent) c.self.view_is
    (tests_agree c.self.inside.area (the_view c.self.inside).state c.self.invariant.claimed c.args.extent c.is_free.result c.is_free.ensures.free)
