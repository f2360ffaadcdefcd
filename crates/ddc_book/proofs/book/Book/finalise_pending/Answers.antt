use Rattle.std.proofs.Common.{◌≡◌, ap, sym, ◌∙◌, subst, [], None, refl}
use Rattle.ddc_names.specs.declared.reference.RefName.{RefName}
use Rattle.ddc_model.specs.declared.entry.Entry.TheVariants.{Finalise}
use Rattle.ddc_model.specs.Commands.{hour_of, FinaliseAs}
use Rattle.ddc_model.specs.History.{no_room, past_of}
use Rattle.ddc_book.specs.View.{BookView}
use Rattle.ddc_book.specs.Calls.{Stays, CommandGives, GoesOn}
use Rattle.ddc_book.specs.inside.Making.{IsFit, IsServing}
use Rattle.ddc_book.proofs.Aside.{gives_from, goes_from, stays_aside, goes_aside, serves_aside}
use Rattle.ddc_book.proofs.Giving.{makes_none, gives, InRoom}
use Rattle.ddc_book.proofs.Putting.{finalise_makes, finalise_waits}
use Rattle.ddc_book.proofs.Fitting.{finalise_fit}
use Rattle.ddc_book.proofs.book.Book.finalise_pending.Goals as goal

pub returns-in_default-clause-goes_on : goal.returns-in_default-clause-goes_on
returns-in_default-clause-goes_on g c =
    let old = c.args.self.now in
    subst (λ (b : BookView g.row.D.Denot). GoesOn g.D.Disk.tells g.D.Disk.meaning old [] b) (sym c.missing.ensures.same)
    (goes_aside g.D.Disk.meaning old c.missing.new.self.reads g.D.Disk.tells c.requires.serves.still [])

pub returns-in_default-new-clause-goes_on : goal.returns-in_default-new-clause-goes_on
returns-in_default-new-clause-goes_on g c =
    let old = c.args.self.now in
    subst (λ (b : BookView g.row.D.Denot). GoesOn g.D.Disk.tells g.D.Disk.meaning old [] b) (sym c.missing.ensures.same)
    (goes_aside g.D.Disk.meaning old c.missing.new.self.reads g.D.Disk.tells c.requires.serves.still [])

pub make-requires-clause-serves : goal.make-requires-clause-serves
make-requires-clause-serves g c =
    subst (λ (b : BookView g.row.D.Denot). IsServing g.D.Disk.tells g.D.Disk.meaning b) (sym c.missing.ensures.same)
    (serves_aside g.D.Disk.meaning c.args.self.now c.missing.new.self.reads g.D.Disk.tells c.requires.serves)

pub make-requires-clause-fit : goal.make-requires-clause-fit
make-requires-clause-fit g c =
    let old = c.args.self.now in
    let s = old.cache.index in
    let name = c.args.name.now in
    let mid = c.missing.new.self in
    let same = c.missing.ensures.same in
    let now : c.hour_of.result ≡ hour_of s c.args.hour = c.hour_of.ensures ∙ ap (λ (b : BookView g.row.D.Denot). hour_of b.cache.index c.args.hour) same in
    let makes = finalise_makes s name c.args.hash c.args.hour c.requires.pending c.in-Ok.missing c.in-Ok.ensures.needs (sym c.len.ensures ∙ c.if-len-eq0.true) c.hour_of.result now in
    let Fits : BookView g.row.D.Denot → RefName → Type 0 = λ b n. no_room b.cache.index (past_of b.steps) (Finalise n c.args.hash c.hour_of.result) ≡ None → IsFit b.cache (Finalise n c.args.hash c.hour_of.result) None in
    subst (λ (n : RefName). Fits mid n) (sym c.in-Ok-new.ensures)
    (subst (λ (b : BookView g.row.D.Denot). Fits b name) (sym same)
    (finalise_fit old.cache c.requires.serves.whole (past_of old.steps) name c.args.hash c.args.hour c.hour_of.result c.in-Ok.missing makes))

pub returns-in-Ok-new-clause-gives : goal.returns-in-Ok-new-clause-gives
returns-in-Ok-new-clause-gives g c =
    let old = c.args.self.now in
    let s = old.cache.index in
    let name = c.args.name.now in
    let mid = c.missing.new.self in
    let same = c.missing.ensures.same in
    let now : c.hour_of.result ≡ hour_of s c.args.hour = c.hour_of.ensures ∙ ap (λ (b : BookView g.row.D.Denot). hour_of b.cache.index c.args.hour) same in
    let makes = finalise_makes s name c.args.hash c.args.hour c.requires.pending c.in-Ok.missing c.in-Ok.ensures.needs (sym c.len.ensures ∙ c.if-len-eq0.true) c.hour_of.result now in
    let entry = Finalise name c.args.hash c.hour_of.result in
    let value = c.in-Ok.missing in
    gives g.D.Disk.meaning old c.make.new.self [] entry value (FinaliseAs s name c.args.hash c.args.hour) makes [] refl c.make.result
    (gives_from g.D.Disk.meaning old mid.reads [] c.make.new.self (InRoom old entry value) c.make.result
    (subst (λ (b : BookView g.row.D.Denot). CommandGives g.D.Disk.meaning b [] c.make.new.self (InRoom b entry value) c.make.result) same
    (subst (λ (n : RefName). CommandGives g.D.Disk.meaning mid [] c.make.new.self (InRoom mid (Finalise n c.args.hash c.hour_of.result) value) c.make.result) c.in-Ok-new.ensures c.make.ensures.gives)))

pub returns-in-Ok-new-clause-goes_on : goal.returns-in-Ok-new-clause-goes_on
returns-in-Ok-new-clause-goes_on g c =
    let old = c.args.self.now in
    goes_from g.D.Disk.meaning old c.missing.new.self.reads g.D.Disk.tells [] c.make.new.self
    (subst (λ (b : BookView g.row.D.Denot). GoesOn g.D.Disk.tells g.D.Disk.meaning b [] c.make.new.self) c.missing.ensures.same c.make.ensures.goes_on)

pub returns-else-len-eq0-clause-gives : goal.returns-else-len-eq0-clause-gives
returns-else-len-eq0-clause-gives g c =
    let old = c.args.self.now in
    let s = old.cache.index in
    let name = c.args.name.now in
    let stays = subst (λ (b : BookView g.row.D.Denot). Stays g.D.Disk.meaning old b) (sym c.missing.ensures.same) (stays_aside g.D.Disk.meaning old c.missing.new.self.reads g.D.Disk.tells c.requires.serves.still) in
    makes_none g.D.Disk.meaning old c.missing.new.self [] (FinaliseAs s name c.args.hash c.args.hour) c.requires.serves.unbroken stays c.in-Ok.missing
    (finalise_waits s name c.args.hash c.args.hour c.requires.pending c.in-Ok.missing c.in-Ok.ensures.needs (λ none. c.if-len-eq0.false (c.len.ensures ∙ none)))

pub returns-else-len-eq0-clause-goes_on : goal.returns-else-len-eq0-clause-goes_on
returns-else-len-eq0-clause-goes_on g c =
    let old = c.args.self.now in
    subst (λ (b : BookView g.row.D.Denot). GoesOn g.D.Disk.tells g.D.Disk.meaning old [] b) (sym c.missing.ensures.same)
    (goes_aside g.D.Disk.meaning old c.missing.new.self.reads g.D.Disk.tells c.requires.serves.still [])
