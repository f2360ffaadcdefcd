use Rattle.std.proofs.Common.{sym, ◌∙◌, ap, ◌++◌, ◌∷◌, [], subst, ◌≤◌, ◌^◌}
use Rattle.ddc_model.specs.declared.rows.Limits.{Limits}
use Rattle.ddc_model.specs.declared.entry.Step.TheVariants.{Loaded}
use Rattle.ddc_model.specs.History.{broken_by}
use Rattle.ddc_opening.specs.Changes.{unbroken_changes}
use Rattle.ddc_book.proofs.OpenedBook.{limits_stay, book_opened, opens_opened}
use Rattle.ddc_book.proofs.book.Book.of_store.Goals as goal

pub opened-requires : goal.opened-requires
opened-requires g c = ap broken_by c.requires.opened.steps_are ∙ unbroken_changes c.requires.opened.all

pub invariant_of-result : goal.invariant_of-result
invariant_of-result g c =
    let m = g.D.Disk.meaning in
    let store = c.args.store in
    let stay = limits_stay g.D.Disk.tells m c.args.devices c.args.limits store.pair store.index.state store.steps.items c.requires.opened in
    let low : store.index.state.limits.units ≤ 2 ^ 51 = subst (λ (l : Limits). l.units ≤ 2 ^ 51) (sym stay) c.requires.units in
    book_opened g.D.Disk.tells m g.met.D.Disk.rests g.met.D.Disk.told g.met.D.Disk.reads c.one_opening.ensures.opening c.args.devices store.pair store.index.state low
    c.args.limits store.steps.items c.in-Ok.history c.faults.result c.moment-opened.result store.index.reads c.requires.opened c.in-Ok.ensures c.faults.ensures c.moment-opened.ensures

pub returns-in-Ok-clause-steps : goal.returns-in-Ok-clause-steps
returns-in-Ok-clause-steps g c =
    let store = c.args.store in
    let stay = limits_stay g.D.Disk.tells g.D.Disk.meaning c.args.devices c.args.limits store.pair store.index.state store.steps.items c.requires.opened in
    c.in-Ok.ensures ∙ (λ i. store.steps.items ++ Loaded (sym stay i) (c.faults.ensures i) ∷ [])

pub returns-in-Ok-clause-opens : goal.returns-in-Ok-clause-opens
returns-in-Ok-clause-opens g c tell im now =
    let store = c.args.store in
    opens_opened g.D.Disk.tells g.D.Disk.meaning g.met.D.Disk.rests c.args.devices c.args.limits store.pair store.index.state store.steps.items c.requires.opened tell im now
