use Rattle.std.proofs.Common.{ap, sym, ◌∙◌, Some, ℕ, List, length}
use Rattle.ddc_model.specs.declared.entry.Entry.TheVariants.{Upload}
use Rattle.ddc_model.specs.declared.entry.Stored.{Stored}
use Rattle.ddc_model.specs.Content.{content_hash}
use Rattle.ddc_model.specs.Commands.{changed, UploadAs}
use Rattle.ddc_book.proofs.Giving.{refuses, gives}
use Rattle.ddc_book.proofs.Uploads.{not_there, upload_adds, upload_is_full}
use Rattle.ddc_book.proofs.Fitting.{starts_low, upload_fit}
use Rattle.ddc_book.proofs.book.Book.upload_new.Goals as goal

pub returns-in_default-clause-goes_on : goal.returns-in_default-clause-goes_on
returns-in_default-clause-goes_on g c = c.requires.serves.still.goes c.args.blob.bytes

pub returns-in-Some-clause-gives : goal.returns-in-Some-clause-gives
returns-in-Some-clause-gives g c =
    let old = c.args.self.now in
    let s = old.cache.index in
    let absent = not_there s c.args.space.now (content_hash c.args.blob.bytes) c.requires.absent in
    refuses g.D.Disk.meaning old old c.args.blob.bytes (UploadAs s c.args.space.now c.args.blob c.args.hour) c.requires.serves.unbroken c.requires.serves.still.stays c.in-Some.fault c.in-Some.ensures.refusal
    (upload_is_full s c.args.space.now c.args.blob c.args.hour c.requires.known absent c.in-Ok.fresh c.in-Ok.ensures.stored c.in-Some.fault (sym c.in-Some.ensures.fault))

pub returns-in-Some-clause-goes_on : goal.returns-in-Some-clause-goes_on
returns-in-Some-clause-goes_on g c = c.requires.serves.still.goes c.args.blob.bytes

pub make-requires-clause-fit : goal.make-requires-clause-fit
make-requires-clause-fit g c =
    let s = c.args.self.now.cache.index in
    let absent = not_there s c.args.space.now (content_hash c.args.blob.bytes) c.requires.absent in
    let makes = upload_adds s c.args.space.now c.args.blob c.args.hour c.requires.known absent c.in-Ok.fresh c.hour_of.result c.in-Ok.ensures.stored c.hour_of.ensures (sym c.in_default-full.ensures.fault) in
    let entry = Upload c.args.space.now c.hour_of.result c.in-Ok.fresh in
    λ room. upload_fit c.args.self.now.cache c.requires.serves.whole c.args.space.now c.args.blob c.args.hour c.stored.ensures.read c.requires.short entry (Some c.into_whole.result)
    (ap (λ (blob : Stored). blob.len) c.in-Ok.ensures.stored ∙ ap (λ (l : List ℕ). length l) (sym c.into_whole.ensures)) (starts_low s c.args.blob c.in-Ok.fresh c.in-Ok.ensures.stored)
    (ap (λ (l : List ℕ). changed c.args.self.now.cache l (Some entry)) (sym c.into_whole.ensures)) makes

pub returns-clause-gives : goal.returns-clause-gives
returns-clause-gives g c =
    let s = c.args.self.now.cache.index in
    let absent = not_there s c.args.space.now (content_hash c.args.blob.bytes) c.requires.absent in
    let makes = upload_adds s c.args.space.now c.args.blob c.args.hour c.requires.known absent c.in-Ok.fresh c.hour_of.result c.in-Ok.ensures.stored c.hour_of.ensures (sym c.in_default-full.ensures.fault) in
    let entry = Upload c.args.space.now c.hour_of.result c.in-Ok.fresh in
    gives g.D.Disk.meaning c.args.self.now c.make.new.self c.into_whole.result entry tt (UploadAs s c.args.space.now c.args.blob c.args.hour) makes
    c.args.blob.bytes (ap (λ (l : List ℕ). changed c.args.self.now.cache l (Some entry)) c.into_whole.ensures) c.make.result c.make.ensures.gives
