use Rattle.std.proofs.Common.{Some, sym, ◌∙◌}
use Rattle.ddc_desk.proofs.Keeping.{one_taken}
use Rattle.ddc_desk.proofs.desk.Desk.take.Goals as goal

pub exchange-requires : goal.exchange-requires
exchange-requires g c =
    let turn = c.requires.turn in
    (c.requires.own ∙ sym c.self.view_is, (Some turn.0, one_taken _ _ _ _ turn.1))
