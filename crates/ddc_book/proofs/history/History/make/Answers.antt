use Rattle.std.proofs.Common.{ap, ◌∙◌, arith, List, ◌++◌, ◌∷◌, []}
use Rattle.std.specs.Prelude.{vec_len, vec_capacity}
use Rattle.ddc_model.specs.declared.entry.Step.{Step}
use Rattle.ddc_model.specs.declared.entry.Step.TheVariants.{Change}
use Rattle.ddc_model.specs.History.{broken_by}
use Rattle.ddc_book.proofs.Tally.{tally_made}
use Rattle.ddc_book.proofs.history.History.make.Goals as goal

pub invariant_of-self-2 : goal.invariant_of-self-2
invariant_of-self-2 c =
    let new = c.push_reserved.new.self in
    tally_made c.self.inside.steps.items (vec_len new) (vec_capacity new) (ap broken_by c.self.view_is ∙ c.requires.unbroken) _ _ c.self.inside.entries c.self.inside.links c.added_links_of.result c.self.inside.broken c.args.entry new.items
    c.self.invariant c.added_links_of.ensures (c.push_reserved.ensures.items ∙ ap (λ (l : List Step). l ++ Change c.args.entry ∷ []) c.reserve.ensures.items)
    (omega (arith, c.in_ok-reserve.ensures.ok, c.push_reserved.ensures.len, c.push_reserved.ensures.capacity))
