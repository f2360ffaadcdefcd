use Rattle.std.proofs.Common.{sym, subst}
use Rattle.ddc_model.specs.State.{State}
use Rattle.ddc_book.specs.View.{IsBook}
use Rattle.ddc_book.proofs.Stored.{seen}
use Rattle.ddc_book.proofs.Still.{with_reads}
use Rattle.ddc_book.proofs.book.Book.missing.Goals as goal

pub invariant_of-self : goal.invariant_of-self
invariant_of-self g c =
    let b = c.self.inside in
    let kept = with_reads g.D.Disk.tells g.D.Disk.meaning g.met.D.Disk.rests b.devices b.index.state b.history b.opened b.index.reads b.pair c.self.invariant c.needs.new.index.reads in
    subst (λ (s : State). IsBook g.D.Disk.tells g.D.Disk.meaning (seen g.D.Disk.tells g.D.Disk.meaning b.devices s b.history b.opened c.needs.new.index.reads) b.pair) (sym c.needs.ensures.same) kept
