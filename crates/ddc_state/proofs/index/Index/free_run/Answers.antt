use Rattle.std.proofs.Common.{◌≡◌, None, Some, sym, subst}
use Rattle.ddc_model.specs.Extents.{free_run, units_of}
use Rattle.ddc_state.specs.Views.{IndexView}
use Rattle.ddc_state.specs.contracts.index.Index.{the_view}
use Rattle.ddc_state.proofs.FreeUnits.{run_begins, no_run}
use Rattle.ddc_state.proofs.index.Index.free_run.Goals as goal

pub returns-in-Some-clause-run : goal.returns-in-Some-clause-run
returns-in-Some-clause-run c =
    subst (λ (index : IndexView). Some c.in-Some.run'.start ≡ free_run index.state (units_of c.args.len)) c.self.view_is
    (sym (run_begins c.self.inside.area (the_view c.self.inside).state c.self.invariant.claimed (units_of c.args.len) c.in-Some.run' c.in-Some.ensures.first))

pub returns-in-None-clause-run : goal.returns-in-None-clause-run
returns-in-None-clause-run c =
    subst (λ (index : IndexView). None ≡ free_run index.state (units_of c.args.len)) c.self.view_is
    (sym (no_run c.self.inside.area (the_view c.self.inside).state c.self.invariant.claimed (units_of c.args.len) c.in-None.ensures.none))
