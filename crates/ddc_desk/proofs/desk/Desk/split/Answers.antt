use Rattle.std.proofs.Common.{rules, sym, ap, ◌∙◌}
use Rattle.ddc_desk.proofs.Keeping.{splits}
use Rattle.ddc_desk.proofs.desk.Desk.split.Goals as goal

pub split_seat-token-requires : goal.split_seat-token-requires
split_seat-token-requires g c = (ap (λ v. v.desk) c.seat.view_is ∙ c.requires.own ∙ sym c.self.view_is, search rules, splits g.T.Grows.list _ _)
