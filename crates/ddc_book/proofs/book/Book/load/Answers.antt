use Rattle.std.proofs.Common.{sym, ◌∙◌, ap, subst}
use Rattle.ddc_disk.specs.Images.{devices_line}
use Rattle.ddc_disk.specs.declared.devices.Devices.{Devices}
use Rattle.ddc_model.specs.Sound.{Cache, AreWhole}
use Rattle.ddc_model.specs.History.{broken_by}
use Rattle.ddc_opening.specs.Loading.{AsBefore, HeldSteps}
use Rattle.ddc_opening.specs.Changes.{unbroken_changes}
use Rattle.ddc_book.proofs.OpenedBook.{limits_stay}
use Rattle.ddc_book.proofs.book.Book.load.Goals as goal

pub returns-in-Ok-of_store-clause-loaded : goal.returns-in-Ok-of_store-clause-loaded
returns-in-Ok-of_store-clause-loaded g c =
    let m = g.D.Disk.meaning in
    let devices = c.load_store.new.devices in
    let store = c.in-Ok.store in
    let found = c.in-Ok.ensures.opened in
    let made = c.in-Ok-of_store.ensures in
    let same = made.devices in
    let back = subst (λ (d : Devices g.row.D.Denot). AsBefore m d devices) c.new-held.ensures c.load_store.ensures.back in
    let held = subst (λ (d : Devices g.row.D.Denot). HeldSteps m d c.args.limits store.index.state store.steps.items) c.new-held.ensures c.in-Ok.ensures.held in
    record {
      as_before = subst (λ (d : Devices g.row.D.Denot). AsBefore m c.args.devices d) (sym same) back;
      limits_are = ap (λ (k : Cache). k.index.limits) made.cache ∙ limits_stay g.D.Disk.tells m devices c.args.limits store.pair store.index.state store.steps.items found;
      whole = subst (λ (k : Cache). AreWhole k.index) (sym made.cache) found.whole;
      changes = store.steps.items;
      held = subst (λ (k : Cache). HeldSteps m c.args.devices c.args.limits k.index store.steps.items) (sym made.cache) held;
      unbroken = ap broken_by found.steps_are ∙ unbroken_changes found.all;
      steps = made.steps;
      opened = made.opened ∙ ap (λ (d : Devices g.row.D.Denot). (devices_line m d).moment) (sym same);
      sure = made.sure;
      opens = made.opens;
    }
