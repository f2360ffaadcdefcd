use Rattle.std.proofs.Common.{◌≡◌, sym, ◌∙◌, subst, [], None, refl}
use Rattle.ddc_names.specs.declared.reference.RefName.{RefName}
use Rattle.ddc_model.specs.declared.entry.Entry.TheVariants.{Delete}
use Rattle.ddc_model.specs.declared.fault.StoreFault.TheVariants.{UnknownSpace, NotFound}
use Rattle.ddc_model.specs.History.{no_room, past_of}
use Rattle.ddc_model.specs.Reads.{DeleteAs}
use Rattle.ddc_book.specs.Calls.{CommandGives}
use Rattle.ddc_book.specs.inside.Making.{IsFit}
use Rattle.ddc_book.proofs.Giving.{refuses, gives, InRoom}
use Rattle.ddc_book.proofs.Deleting.{delete_unknown, delete_absent, delete_makes}
use Rattle.ddc_book.proofs.Fitting.{delete_fit}
use Rattle.ddc_book.proofs.book.Book.delete.Goals as goal

pub returns-then-not-has_space-clause-gives : goal.returns-then-not-has_space-clause-gives
returns-then-not-has_space-clause-gives g c =
    let old = c.args.self.now in
    let s = old.cache.index in
    refuses g.D.Disk.meaning old old [] (DeleteAs s c.args.name.now c.args.hour) (sym c.in_default.ensures.count) c.in_default.ensures.still.stays UnknownSpace tt
    (delete_unknown s c.args.name.now c.args.hour (sym c.has_space.ensures ∙ c.if-not-has_space.true))

pub returns-then-not-has_space-clause-goes_on : goal.returns-then-not-has_space-clause-goes_on
returns-then-not-has_space-clause-goes_on g c = c.in_default.ensures.still.goes []

pub returns-then-added_refs-eq1-clause-gives : goal.returns-then-added_refs-eq1-clause-gives
returns-then-added_refs-eq1-clause-gives g c =
    let old = c.args.self.now in
    let s = old.cache.index in
    refuses g.D.Disk.meaning old old [] (DeleteAs s c.args.name.now c.args.hour) (sym c.in_default.ensures.count) c.in_default.ensures.still.stays NotFound tt
    (delete_absent s c.args.name.now c.args.hour (sym c.has_space.ensures ∙ c.if-not-has_space.false) (sym c.added_refs.ensures ∙ c.if-added_refs-eq1.true))

pub returns-then-added_refs-eq1-clause-goes_on : goal.returns-then-added_refs-eq1-clause-goes_on
returns-then-added_refs-eq1-clause-goes_on g c = c.in_default.ensures.still.goes []

pub returns-in_default-new-clause-goes_on : goal.returns-in_default-new-clause-goes_on
returns-in_default-new-clause-goes_on g c = c.in_default.ensures.still.goes []

pub make-requires-clause-fit : goal.make-requires-clause-fit
make-requires-clause-fit g c =
    let old = c.args.self.now in
    let past = past_of old.steps in
    subst (λ (n : RefName). no_room old.cache.index past (Delete n c.hour_of.result) ≡ None → IsFit old.cache (Delete n c.hour_of.result) None) (sym c.in-Ok.ensures)
    (delete_fit old.cache (c.in_default.ensures.serves (sym c.in_default.ensures.count)).whole past c.args.name.now c.args.hour c.hour_of.result
    (delete_makes c.args.self.now.cache.index c.args.name.now c.args.hour (sym c.has_space.ensures ∙ c.if-not-has_space.false) (λ one. c.if-added_refs-eq1.false (c.added_refs.ensures ∙ one)) c.hour_of.result c.hour_of.ensures))

pub returns-clause-gives : goal.returns-clause-gives
returns-clause-gives g c =
    let old = c.args.self.now in
    let s = old.cache.index in
    gives g.D.Disk.meaning old c.make.new.self [] (Delete c.args.name.now c.hour_of.result) tt (DeleteAs s c.args.name.now c.args.hour)
    (delete_makes s c.args.name.now c.args.hour (sym c.has_space.ensures ∙ c.if-not-has_space.false) (λ one. c.if-added_refs-eq1.false (c.added_refs.ensures ∙ one)) c.hour_of.result c.hour_of.ensures)
    [] refl c.make.result (subst (λ (n : RefName). CommandGives g.D.Disk.meaning old [] c.make.new.self (InRoom old (Delete n c.hour_of.result) tt) c.make.result) c.in-Ok.ensures c.make.ensures.gives)
