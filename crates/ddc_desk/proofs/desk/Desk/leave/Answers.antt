use Rattle.std.proofs.Common.{rules, sym, ap, ◌∙◌, subst}
use mathlib.Core.List.{IsPrefix}
use Rattle.ddc_desk.proofs.Keeping.{serves_given}
use Rattle.ddc_desk.proofs.desk.Desk.leave.Goals as goal

pub fetch_add-requires : goal.fetch_add-requires
fetch_add-requires g c =
    let e = c.exchange.ensures in
    let own = ap (λ v. v.desk) c.begun.view_is ∙ c.requires.own ∙ sym c.self.view_is in
    let grown = subst (λ l. IsPrefix l (g.T.Grows.list c.args.turn.value)) (sym (ap (λ v. v.front) c.begun.view_is)) c.requires.grown in
    (cc (e.0, own), search rules, serves_given g.T.Grows.list _ _ _ _ _ _ c.args.turn.value e.3 c.begun.invariant.0 grown)
