use Rattle.std.proofs.Common.{ℕ, List, length, sym, subst}
use Rattle.std.proofs.lemmas.Result.{on_ok_weaker}
use Rattle.ddc_disk.specs.Disk.{EachImage, EachSince, IsSure, MayTear, overwritten}
use Rattle.ddc_disk.specs.Since.{weaker}
use Rattle.blob_store.specs.Bytes.{first_byte, HasBlobBytes, MayChange}
use Rattle.blob_store.specs.BytesLaws.{torn_changes_only, written_has}
use Rattle.blob_store.proofs.Told.{told_weaker}
use Rattle.blob_store.proofs.bytes.write_blob.Goals as goal

pub returns-clause-bytes : goal.returns-clause-bytes
returns-clause-bytes g c some =
    let at = first_byte c.args.extent in
    let bytes = c.bytes-bytes.result.now in
    let new = g.D.Disk.meaning c.write_sure.new.disk in
    on_ok_weaker c.write_sure.result (told_weaker (g.D.Disk.meaning c.args.disk.now).held
    (λ file. IsSure new (overwritten file at bytes))
    (λ _. EachImage new.line (λ image. HasBlobBytes image at c.args.whole.now))
    (λ file sure image now.
    subst (λ (l : List ℕ). HasBlobBytes image at l) c.bytes-bytes.ensures
    (subst (λ (l : List ℕ). HasBlobBytes l at bytes) (sym (sure.only image now)) (written_has file at bytes)))) c.write_sure.ensures.durable

pub returns-clause-in_extent : goal.returns-clause-in_extent
returns-clause-in_extent g c =
    let old = (g.D.Disk.meaning c.args.disk.now).line in
    let new = (g.D.Disk.meaning c.write_sure.new.disk).line in
    let at = first_byte c.args.extent in
    let torn : EachSince old new (MayTear at (length c.args.whole.now) old) =
    subst (λ (l : List ℕ). EachSince old new (MayTear at (length l) old)) c.bytes-bytes.ensures c.write_sure.ensures.any_moment in
    weaker old new (MayTear at (length c.args.whole.now) old) (MayChange c.args.extent old) torn
    (λ image m. (m.0, m.1, torn_changes_only c.args.extent (length c.args.whole.now) m.0 image c.requires m.2))
