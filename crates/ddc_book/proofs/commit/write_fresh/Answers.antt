use Rattle.std.proofs.Common.{ℕ, List, sym, subst}
use Rattle.std.specs.Prelude.{Option, OnOk}
use Rattle.ddc_disk.specs.Disk.{IsSure}
use Rattle.ddc_book.specs.inside.Making.{bytes_or_none, with_bytes}
use Rattle.ddc_book.proofs.Lent.{blob_run, fresh_sure}
use Rattle.ddc_book.proofs.commit.write_fresh.Goals as goal

pub returns-in-Some-clause-any_moment : goal.returns-in-Some-clause-any_moment
returns-in-Some-clause-any_moment g c first second file sure_first sure_second sure =
    let m = g.D.Disk.meaning in
    let rests = g.met.D.Disk.rests in
    let old = c.args.devices.now in
    blob_run (m old.first) (m old.second) (m old.blobs) (m c.blobs.result.now) (rests old.first) (rests old.second) (rests old.blobs) c.blobs.ensures.lent (m c.write_blob.new.disk) c.args.place first second file sure_first sure_second sure c.write_blob.ensures.in_extent

pub returns-in-Some-clause-sure : goal.returns-in-Some-clause-sure
returns-in-Some-clause-sure g c =
    let m = g.D.Disk.meaning in
    let old = c.args.devices.now in
    let P : Option (List ℕ) → Type 0 = λ blob. OnOk c.write_blob.result ((file : List ℕ) → IsSure (m old.blobs) file → IsSure (m c.write_blob.new.disk) (with_bytes file c.args.place (bytes_or_none blob))) in
    subst P (sym c.in-Some.is) (fresh_sure g.D.Disk.meaning old.first old.second old.blobs c.blobs.result.now c.write_blob.new.disk g.met.D.Disk.rests c.blobs.ensures.lent c.args.place c.write_blob.result _ c.write_blob.ensures.durable c.write_blob.ensures.empty)
