use Rattle.std.proofs.Common.{sym, ◌∙◌, ap, subst, List}
use Rattle.ddc_disk.specs.Images.{devices_line}
use Rattle.ddc_disk.specs.declared.devices.Devices.{Devices}
use Rattle.ddc_journal.specs.Pairs.{IsNewPair}
use Rattle.ddc_model.specs.declared.entry.Step.{Step}
use Rattle.ddc_model.specs.State.{State}
use Rattle.ddc_model.specs.Sound.{Cache}
use Rattle.ddc_opening.specs.Loading.{Creates}
use Rattle.ddc_opening.specs.Opening.{version}
use Rattle.ddc_book.specs.View.{told_cache}
use Rattle.ddc_book.specs.Loading.{HasOpened}
use Rattle.ddc_book.proofs.OpenedBook.{empty_told}
use Rattle.ddc_book.proofs.book.Book.create.Goals as goal

pub returns-in-Ok-of_store-clause-created : goal.returns-in-Ok-of_store-clause-created
returns-in-Ok-of_store-clause-created g c =
    let m = g.D.Disk.meaning in
    let devices = c.create_store.new.devices in
    let made = c.in-Ok-of_store.ensures in
    let same = made.devices in
    let creates = subst (λ (d : Devices g.row.D.Denot). Creates m d c.args.limits devices) c.new-held.ensures c.create_store.ensures.any_moment in
    record {
      creates = subst (λ (d : Devices g.row.D.Denot). Creates m c.args.devices c.args.limits d) (sym same) creates;
      index = ap (λ (k : Cache). k.index) made.cache ∙ c.in-Ok.ensures.empty;
      cache = λ tell. made.cache ∙ ap (λ (s : State). told_cache g.D.Disk.tells m devices s) c.in-Ok.ensures.empty ∙ empty_told g.D.Disk.tells m devices c.args.limits tell (g.met.D.Disk.told devices.blobs tell);
      fresh = λ tell. subst (λ (d : Devices g.row.D.Denot). IsNewPair m d version) (sym same) (c.in-Ok.ensures.fresh tell);
      steps = subst (λ (l : List Step). HasOpened m c.in-Ok-of_store.book l) c.in-Ok.ensures.no_steps made.steps;
      opened = made.opened ∙ ap (λ (d : Devices g.row.D.Denot). (devices_line m d).moment) (sym same);
      sure = made.sure;
      opens = made.opens;
    }
