use Rattle.std.proofs.Common.{ap, sym, refl, ◌∙◌}
use Rattle.std.specs.FinMap as map
use Rattle.ref_store.specs.Slots.{Slots}
use Rattle.ref_store.specs.inside.Places.{place_of_name}
use Rattle.ref_store.proofs.Answered.{at_err}
use Rattle.ref_store.proofs.Places.{found, one_set, count_set}
use Rattle.ref_store.proofs.table.RefTable.set.Goals as goal

pub returns-in_err-insert-clause-only_for_a_new_name : goal.returns-in_err-insert-clause-only_for_a_new_name
returns-in_err-insert-clause-only_for_a_new_name c = at_err c.from_residual.result
    (ap (λ (m : Slots). map.get m c.args.name.now) (sym c.self.view_is)
    ∙ sym (found c.self.inside.slots.entries (place_of_name c.args.name.now) c.args.name.now refl) ∙ c.in_err-insert.ensures.absent)

pub invariant_of-self-2 : goal.invariant_of-self-2
invariant_of-self-2 c = count_set c.self.inside.slots.entries c.insert.new.self.entries c.args.name.now c.args.slot c.in_ok-insert.field-0
    (one_set c.self.inside.slots.entries c.insert.new.self.entries (place_of_name c.args.name.now) c.args.name.now c.args.slot refl c.in_ok-insert.ensures.updates.0)
    (c.in_ok-insert.ensures.old ∙ found c.self.inside.slots.entries (place_of_name c.args.name.now) c.args.name.now refl)
    c.in_ok-insert.ensures.len c.self.invariant

pub returns-clause-ok : goal.returns-clause-ok
returns-clause-ok c =
    one_set c.self.inside.slots.entries c.insert.new.self.entries (place_of_name c.args.name.now) c.args.name.now c.args.slot refl c.in_ok-insert.ensures.updates.0
    ∙ ap (λ (m : Slots). map.insert m c.args.name.now c.args.slot) c.self.view_is
