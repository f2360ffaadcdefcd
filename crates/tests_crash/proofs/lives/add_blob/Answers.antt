use Rattle.ddc_model.specs.Limits.{standard}
use Rattle.ddc_model.specs.Commands.{UploadAs}
use Rattle.ddc_model.specs.History.{past_of, WithRoom}
use Rattle.tests_crash.proofs.Honest.{honest_then, limits_kept}
use Rattle.tests_crash.proofs.lives.add_blob.Goals as goal

pub returns-clause-honest : goal.returns-clause-honest
returns-clause-honest c =
    let old = c.args.book.now in
    let new = c.upload.new.self in
    let blob = c.args.blob in
    let same = limits_kept old new blob.bytes (WithRoom old.cache.index (past_of old.steps) (UploadAs old.cache.index c.args.space blob 7)) c.upload.result c.upload.ensures.gives in
    honest_then standard old.opened old new blob.bytes c.requires c.upload.ensures.goes_on same
