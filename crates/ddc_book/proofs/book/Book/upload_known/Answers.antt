use Rattle.std.proofs.Common.{[], None, refl}
use Rattle.ddc_model.specs.declared.entry.Entry.TheVariants.{Repin}
use Rattle.ddc_model.specs.Commands.{UploadAs}
use Rattle.ddc_book.proofs.Giving.{makes_none, gives, goes_alike}
use Rattle.ddc_book.proofs.Uploads.{upload_repins, upload_nothing}
use Rattle.ddc_book.proofs.Fitting.{upload_fit}
use Rattle.ddc_book.proofs.book.Book.upload_known.Goals as goal

pub make-requires-clause-fit : goal.make-requires-clause-fit
make-requires-clause-fit g c =
    let s = c.args.self.now.cache.index in
    let entry = Repin c.args.space.now c.hash_of.result c.hour_of-hour.result in
    let makes = upload_repins s c.args.space.now c.args.blob.now c.args.hour c.requires.known c.args.at c.requires.there c.hash_of.result c.hour_of-hour.result c.hash_of.ensures.hash c.hour_of-hour.ensures c.if-at-hour.true in
    λ room. upload_fit c.args.self.now.cache c.requires.serves.whole c.args.space.now c.args.blob.now c.args.hour c.hash_of.ensures.read c.requires.short entry None tt tt refl makes

pub returns-then-at-hour-clause-gives : goal.returns-then-at-hour-clause-gives
returns-then-at-hour-clause-gives g c =
    let s = c.args.self.now.cache.index in
    let entry = Repin c.args.space.now c.hash_of.result c.hour_of-hour.result in
    let makes = upload_repins s c.args.space.now c.args.blob.now c.args.hour c.requires.known c.args.at c.requires.there c.hash_of.result c.hour_of-hour.result c.hash_of.ensures.hash c.hour_of-hour.ensures c.if-at-hour.true in
    gives g.D.Disk.meaning c.args.self.now c.make.new.self [] entry tt (UploadAs s c.args.space.now c.args.blob.now c.args.hour) makes c.args.blob.now.bytes refl c.make.result c.make.ensures.gives

pub returns-then-at-hour-clause-goes_on : goal.returns-then-at-hour-clause-goes_on
returns-then-at-hour-clause-goes_on g c =
    let s = c.args.self.now.cache.index in
    let entry = Repin c.args.space.now c.hash_of.result c.hour_of-hour.result in
    let makes = upload_repins s c.args.space.now c.args.blob.now c.args.hour c.requires.known c.args.at c.requires.there c.hash_of.result c.hour_of-hour.result c.hash_of.ensures.hash c.hour_of-hour.ensures c.if-at-hour.true in
    goes_alike g.D.Disk.meaning c.args.self.now c.make.new.self [] entry tt (UploadAs s c.args.space.now c.args.blob.now c.args.hour) makes c.args.blob.now.bytes refl g.D.Disk.tells c.make.result c.make.ensures.gives c.make.ensures.goes_on

pub returns-else-at-hour-clause-gives : goal.returns-else-at-hour-clause-gives
returns-else-at-hour-clause-gives g c =
    let old = c.args.self.now in
    let s = old.cache.index in
    makes_none g.D.Disk.meaning old old c.args.blob.now.bytes (UploadAs s c.args.space.now c.args.blob.now c.args.hour) c.requires.serves.unbroken c.requires.serves.still.stays tt
    (upload_nothing s c.args.space.now c.args.blob.now c.args.hour c.requires.known c.args.at c.requires.there c.hour_of-hour.result c.hour_of-hour.ensures c.if-at-hour.false)

pub returns-else-at-hour-clause-goes_on : goal.returns-else-at-hour-clause-goes_on
returns-else-at-hour-clause-goes_on g c = c.requires.serves.still.goes c.args.blob.now.bytes
