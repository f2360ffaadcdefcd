use Rattle.std.proofs.Common.{rules, sym, ◌∙◌}
use Rattle.ddc_desk.proofs.Keeping.{draws_as}
use Rattle.ddc_desk.proofs.desk.Desk.draw.Goals as goal

pub compare_exchange-found-requires : goal.compare_exchange-found-requires
compare_exchange-found-requires g c =
    let i = c.loop.invariant in
    (i.3 ∙ c.requires.own ∙ sym c.self.view_is, search rules, draws_as g.T.Grows.list _ _ _ _ _ (i.2 ∙ c.requires.idle) (search rules))
