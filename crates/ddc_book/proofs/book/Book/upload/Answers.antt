use Rattle.std.proofs.Common.{sym, ◌∙◌}
use Rattle.ddc_model.specs.declared.fault.StoreFault.TheVariants.{UnknownSpace}
use Rattle.ddc_model.specs.Commands.{UploadAs}
use Rattle.ddc_book.proofs.Giving.{refuses}
use Rattle.ddc_book.proofs.Uploads.{upload_unknown}
use Rattle.ddc_book.proofs.book.Book.upload.Goals as goal

pub returns-then-not-has_space-clause-gives : goal.returns-then-not-has_space-clause-gives
returns-then-not-has_space-clause-gives g c =
    let old = c.args.self.now in
    let s = old.cache.index in
    refuses g.D.Disk.meaning old old c.args.blob.bytes (UploadAs s c.args.space c.args.blob c.args.hour) (sym c.in_default.ensures.count) c.in_default.ensures.still.stays UnknownSpace tt
    (upload_unknown s c.args.space c.args.blob c.args.hour (sym c.has_space.ensures ∙ c.if-not-has_space.true))

pub returns-then-not-has_space-clause-goes_on : goal.returns-then-not-has_space-clause-goes_on
returns-then-not-has_space-clause-goes_on g c = c.in_default.ensures.still.goes c.args.blob.bytes
