use Rattle.std.proofs.Common.{[], ◌∷◌, ◌++◌, Some, sym, ap, ◌∙◌, subst}
use Rattle.atomic_table.specs.Table.{opening}
use Rattle.ddc_desk.specs.inside.Steps.{idle, IsKept}
use Rattle.ddc_desk.proofs.Keeping.{begins}
use Rattle.ddc_desk.proofs.desk.Desk.new.Goals as goal

pub new-requires : goal.new-requires
new-requires g c =
    let items = c.in_default.ensures.items ∙ ap (λ xs. xs ++ Some c.args.value ∷ []) c.new-slots.ensures.items in
    let start = begins g.T.Grows.list c.args.value in
    let first = subst (λ xs. IsKept g.T.Grows.list (opening (0 ∷ 0 ∷ []) xs (idle (g.T.Grows.list c.args.value)))) (sym items) start in
    subst (λ x. IsKept g.T.Grows.list (opening (0 ∷ 0 ∷ []) c.push.new.self.items (idle (g.T.Grows.list x)))) (sym c.of-about.ensures) first
