use Rattle.std.proofs.Common.{rules, sym, ◌∙◌}
use Rattle.ddc_desk.proofs.Keeping.{looks_as}
use Rattle.ddc_desk.proofs.desk.Desk.wait.Goals as goal

pub load-requires : goal.load-requires
load-requires g c =
    let i = c.loop.invariant in
    (i.3 ∙ c.requires.own ∙ sym c.self.view_is, search rules, looks_as g.T.Grows.list _ _ _ _ _ (i.2 ∙ c.requires.waits))
