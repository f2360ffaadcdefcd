use Rattle.std.proofs.Common.{rules, sym, ap, ◌∙◌}
use Rattle.ddc_desk.proofs.Keeping.{joins, compares_joined}
use Rattle.ddc_desk.proofs.desk.Desk.join.Goals as goal

pub join_seat-requires : goal.join_seat-requires
join_seat-requires g c =
    let here = sym c.self.view_is in
    (ap (λ v. v.desk) c.seat.view_is ∙ c.requires.own.0 ∙ here, ap (λ v. v.desk) c.other.view_is ∙ c.requires.own.1 ∙ here, ap (λ m. m.1) c.other.invariant, search rules, joins g.T.Grows.list _ _ _ _)

pub load-requires : goal.load-requires
load-requires g c =
    let e = c.join_seat.ensures in
    (e.0 ∙ ap (λ v. v.desk) c.seat.view_is ∙ c.requires.own.0 ∙ sym c.self.view_is, search rules, compares_joined g.T.Grows.list _ _ _ _ _ _ _ e.2 c.seat.invariant c.other.invariant)
