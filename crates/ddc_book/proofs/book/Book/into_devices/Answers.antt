use Rattle.std.proofs.Common.{◌≡◌, ◌∙◌, ap, sym, subst}
use Rattle.std.specs.Prelude.{None}
use Rattle.ddc_disk.specs.Disk.{EachImage}
use Rattle.ddc_disk.specs.Images.{devices_line}
use Rattle.ddc_disk.specs.declared.devices.Devices.{Devices}
use Rattle.ddc_model.specs.History.{broken_by}
use Rattle.ddc_opening.specs.Opening.{OpensAs}
use Rattle.ddc_book.specs.View.{BookView, limits_of}
use Rattle.ddc_book.proofs.Stored.{seen}
use Rattle.ddc_book.proofs.Still.{opens_now}
use Rattle.ddc_book.proofs.book.Book.into_devices.Goals as goal

pub returns-clause-opened : goal.returns-clause-opened
returns-clause-opened g c told none =
    let b = c.self.inside in
    let v : BookView g.row.D.Denot = seen g.D.Disk.tells g.D.Disk.meaning b.devices b.index.state b.history b.opened b.index.reads in
    let P : BookView g.row.D.Denot → Devices g.row.D.Denot → Type 0 = λ b devices. EachImage (devices_line g.D.Disk.meaning devices) (λ im. OpensAs (limits_of b) im b.cache) in
    let unbroken : broken_by v.steps ≡ None = ap (λ (w : BookView g.row.D.Denot). broken_by w.steps) c.self.view_is ∙ none in
    let now : P v v.devices = opens_now g.D.Disk.tells g.D.Disk.meaning g.met.D.Disk.rests b.devices b.index.state b.history b.opened b.index.reads b.pair c.self.invariant told unbroken in
    subst (P c.args.self) (sym c.into_devices.ensures) (subst (λ (w : BookView g.row.D.Denot). P w v.devices) c.self.view_is now)
