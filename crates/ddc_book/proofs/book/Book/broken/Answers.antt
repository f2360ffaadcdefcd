use Rattle.std.proofs.Common.{◌∙◌, ap, subst}
use Rattle.ddc_model.specs.History.{broken_by}
use Rattle.ddc_book.specs.View.{BookView}
use Rattle.ddc_book.specs.inside.Making.{IsStill, IsServing}
use Rattle.ddc_book.proofs.Still.{still, serves}
use Rattle.ddc_book.proofs.book.Book.broken.Goals as goal

pub returns-clause-still : goal.returns-clause-still
returns-clause-still g c =
    let b = c.self.inside in
    subst (λ (v : BookView g.row.D.Denot). IsStill g.D.Disk.tells g.D.Disk.meaning v) c.self.view_is
    (still g.D.Disk.tells g.D.Disk.meaning g.met.D.Disk.rests b.devices b.index.state b.history b.opened b.index.reads b.pair c.self.invariant)

pub returns-clause-serves : goal.returns-clause-serves
returns-clause-serves g c unbroken =
    let b = c.self.inside in
    subst (λ (v : BookView g.row.D.Denot). IsServing g.D.Disk.tells g.D.Disk.meaning v) c.self.view_is
    (serves g.D.Disk.tells g.D.Disk.meaning g.met.D.Disk.rests b.devices b.index.state b.history b.opened b.index.reads b.pair c.self.invariant (ap (λ (v : BookView g.row.D.Denot). broken_by v.steps) c.self.view_is ∙ unbroken))
