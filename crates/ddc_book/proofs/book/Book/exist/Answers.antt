use Rattle.std.proofs.Common.{sym, ◌∙◌, subst, inl, inr, refl}
use Rattle.ddc_model.specs.Reads.{AreAbsent}
use Rattle.ddc_book.specs.View.{BookView}
use Rattle.ddc_book.proofs.AbsentList.{broken_exist, unknown_exist, known_exist}
use Rattle.ddc_book.proofs.book.Book.exist.Goals as goal

pub returns-in-Some : goal.returns-in-Some
returns-in-Some g c = inr (broken_exist c.args.self.now c.args.space.now c.args.hashes.now c.in-Some.faults c.in-Some.ensures.count)

pub returns-then-not-has_space : goal.returns-then-not-has_space
returns-then-not-has_space g c = inr (unknown_exist c.args.self.now c.args.space.now c.args.hashes.now c.in_default.ensures.count (sym c.has_space.ensures ∙ c.if-not-has_space.true))

pub returns-in-Ok : goal.returns-in-Ok
returns-in-Ok g c =
    let are = subst (λ (b : BookView g.row.D.Denot). AreAbsent b.cache.index c.args.space.now c.args.hashes.now c.in-Ok.list) c.self.view_is c.in-Ok.ensures in
    inr (known_exist c.args.self.now c.args.space.now c.args.hashes.now c.in_default.ensures.count (sym c.has_space.ensures ∙ c.if-not-has_space.false) c.in-Ok.list are)

pub returns-in-Err : goal.returns-in-Err
returns-in-Err g c = inl (sym c.in_default.ensures.count, refl)
