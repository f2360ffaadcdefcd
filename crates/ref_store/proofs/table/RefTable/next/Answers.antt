use Rattle.std.proofs.Common.{◌≡◌, ap, sym, ◌∙◌, Option, option_copied, Bor}
use Rattle.std.specs.declared.ops.Bound.TheVariants.{Excluded}
use Rattle.ddc_names.specs.declared.reference.RefName.{RefName}
use Rattle.ref_store.proofs.Nexts.{start_of, next_read}
use Rattle.ref_store.proofs.table.RefTable.next.Goals as goal
use Rattle.ref_store.proofs.table.RefTable.next.Goals.{in-Some, in-None}

pub returns : goal.returns
returns c =
    let at : c.match-after.start ≡ start_of (option_copied c.args.after) = elim c.match-after.branch [
      | in-Some w ↦ w.start-is ∙ ap Excluded w.of.ensures ∙ sym (ap (λ (o : Option (Bor RefName)). start_of (option_copied o)) w.in-Some.is)
      | in-None w ↦ w.start-is ∙ sym (ap (λ (o : Option (Bor RefName)). start_of (option_copied o)) w.in-None.is)
    ] in
    next_read c.args.self.now (option_copied c.args.after) c.match-after.start c.first_from.result c.self.inside.slots.entries c.self.view_is c.first_from.ensures.ordered at c.first_from.ensures.first
