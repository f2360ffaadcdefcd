use Rattle.std.proofs.Common.{◌≡◌, ◌+◌, ◌*◌, length, ap, ◌∙◌}
use Rattle.std.specs.List.{EachIndex, slice_index}
use Rattle.std.proofs.lemmas.Result.{on_ok_weaker}
use Rattle.blob_store.specs.Bytes.{bytes_from}
use Rattle.blob_store.specs.BytesLaws.{bytes_by_index}
use Rattle.blob_store.proofs.Told.{told_weaker}
use Rattle.blob_store.proofs.bytes.read_piece.Goals as goal

pub returns-clause-bytes : goal.returns-clause-bytes
returns-clause-bytes g c =
    let at = c.args.extent.start * 4096 + c.args.at in
    let into = c.read.new.into in
    on_ok_weaker c.read.result (told_weaker (g.D.Disk.meaning c.args.disk.now).held
    (λ file. EachIndex into (λ k. slice_index into k ≡ slice_index file (at + k)))
    (λ file. into ≡ bytes_from file at (length c.args.into.now))
    (λ file each. bytes_by_index file into at each ∙ ap (bytes_from file at) c.read.auto.into)) c.read.ensures.bytes
