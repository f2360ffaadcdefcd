use Rattle.std.proofs.Common.{ap, ◌∙◌, arith, List, ◌++◌, ◌∷◌, []}
use Rattle.std.specs.Prelude.{vec_len, vec_capacity}
use Rattle.ddc_model.specs.declared.entry.Step.{Step}
use Rattle.ddc_model.specs.declared.entry.Step.TheVariants.{Loaded}
use Rattle.ddc_book.proofs.Tally.{tally_opened}
use Rattle.ddc_book.proofs.history.History.opened.Goals as goal

pub invariant_of-result : goal.invariant_of-result
invariant_of-result c =
    let new = c.push_reserved.new.self in
    tally_opened c.args.steps.items (vec_len new) (vec_capacity new) c.requires c.args.limits c.args.faults new.items (c.push_reserved.ensures.items ∙ ap (λ (l : List Step). l ++ Loaded c.args.limits c.args.faults ∷ []) c.reserve.ensures.items)
    (omega (arith, c.in_ok-reserve.ensures.ok, c.push_reserved.ensures.len, c.push_reserved.ensures.capacity))
