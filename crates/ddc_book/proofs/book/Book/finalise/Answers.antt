use Rattle.std.proofs.Common.{ap, sym, ◌∙◌, subst, [], Ok, None, List, Bool}
use Rattle.ddc_names.specs.declared.hash.IoHash.{IoHash}
use Rattle.ddc_model.specs.Commands.{FinaliseAs}
use Rattle.ddc_book.proofs.Giving.{refuses, makes_none}
use Rattle.ddc_book.proofs.Putting.{finalise_refused, finalise_again}
use Rattle.ddc_book.proofs.book.Book.finalise.Goals as goal

pub returns-in-Err-clause-gives : goal.returns-in-Err-clause-gives
returns-in-Err-clause-gives g c =
    let old = c.args.self.now in
    let s = old.cache.index in
    refuses g.D.Disk.meaning old old [] (FinaliseAs s c.args.name.now c.args.hash c.args.hour) (sym c.in_default.ensures.count) c.in_default.ensures.still.stays c.in-Err.fault c.in-Err.ensures.refusal
    (finalise_refused s c.args.name.now c.args.hash c.args.hour c.in-Err.fault (sym c.in-Err.ensures.done))

pub returns-in-Err-clause-goes_on : goal.returns-in-Err-clause-goes_on
returns-in-Err-clause-goes_on g c = c.in_default.ensures.still.goes []

pub returns-in-Ok-true-clause-gives : goal.returns-in-Ok-true-clause-gives
returns-in-Ok-true-clause-gives g c =
    let old = c.args.self.now in
    let s = old.cache.index in
    makes_none g.D.Disk.meaning old old [] (FinaliseAs s c.args.name.now c.args.hash c.args.hour) (sym c.in_default.ensures.count) c.in_default.ensures.still.stays c.new.result
    (subst (λ (l : List IoHash). FinaliseAs s c.args.name.now c.args.hash c.args.hour (Ok l) None) (sym c.new.ensures) (finalise_again s c.args.name.now c.args.hash c.args.hour (sym c.in-Ok-true.ensures.done ∙ ap (λ (b : Bool). Ok b) c.in-Ok-true.field-0-test)))

pub returns-in-Ok-true-clause-goes_on : goal.returns-in-Ok-true-clause-goes_on
returns-in-Ok-true-clause-goes_on g c = c.in_default.ensures.still.goes []
