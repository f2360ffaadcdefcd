use Rattle.std.proofs.Common.{◌∙◌, ap, refl, Option, Some}
use Rattle.ddc_service.specs.Effects.{effect}
use Rattle.ddc_command.specs.declared.command.Command.{Command}
use Rattle.ddc_command.proofs.top.run_command.Goals as goal

pub returns-in-Init-clause-ends : goal.returns-in-Init-clause-ends
returns-in-Init-clause-ends g c = λ words form.
    let wanted : Command → Option Command = λ a. Some a in
    c.init.ensures.ends words (g.C.Clock.tells c.args.clock.now) (effect g.S.Source.left g.S.Source.faults c.args.source.now c.args.source.now) (refl, refl) (form ∙ ap wanted c.in-Init.is)
