use Rattle.std.proofs.Common.{ap, ◌∙◌}
use Rattle.std.specs.Prelude.{vec_len, vec_capacity}
use Rattle.ddc_model.specs.History.{broken_by}
use Rattle.ddc_book.proofs.Tally.{tally_broken}
use Rattle.ddc_book.proofs.history.History.note_broken.Goals as goal

pub invariant_of-self : goal.invariant_of-self
invariant_of-self c =
    let new = c.push_reserved.new.self in
    tally_broken c.self.inside.steps.items (vec_len new) (vec_capacity new) (ap broken_by c.self.view_is ∙ c.requires) _ _ c.self.inside.entries c.self.inside.links c.self.inside.broken c.args.changed c.args.before c.args.now new.items c.self.invariant c.push_reserved.ensures.items
