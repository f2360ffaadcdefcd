use Rattle.std.proofs.Common.{[], sym, subst}
use Rattle.ddc_model.specs.Sound.{AreWhole}
use Rattle.ddc_opening.proofs.create.create_store.Goals as goal

pub returns-in-Ok-clause-opened : goal.returns-in-Ok-clause-opened
returns-in-Ok-clause-opened g c = record {
  all = [];
  ready = c.in-Ok.ensures.ready;
  are_legal = tt;
  state = c.new-index.ensures.state;
  steps_are = c.new-steps.ensures.items;
  whole = subst AreWhole (sym c.new-index.ensures.state) (c.commands_stay_sound.ensures.empty c.args.limits).whole;
}
