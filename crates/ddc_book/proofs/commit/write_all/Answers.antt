use Rattle.ddc_book.specs.inside.Making.{bytes_or_none}
use Rattle.ddc_book.proofs.Lent.{between_blob, between_both, ready_still}
use Rattle.ddc_book.proofs.commit.write_all.Goals as goal

pub returns-in_err-write_fresh-clause-any_moment : goal.returns-in_err-write_fresh-clause-any_moment
returns-in_err-write_fresh-clause-any_moment g c bodies file is ready sure =
    between_blob g.D.Disk.meaning g.met.D.Disk.rests c.args.devices.now c.write_fresh.new.devices c.args.pair.now c.args.place (bytes_or_none c.args.blob.now) bodies c.args.item.now file is ready sure c.write_fresh.ensures.any_moment

pub returns-in-Ok-clause-any_moment : goal.returns-in-Ok-clause-any_moment
returns-in-Ok-clause-any_moment g c bodies file is ready sure =
    let mid = c.write_fresh.new.devices in
    let still = ready_still g.D.Disk.meaning c.args.devices.now mid c.args.pair.now bodies c.write_fresh.ensures.first c.write_fresh.ensures.second ready in
    between_both g.D.Disk.meaning g.met.D.Disk.rests c.args.devices.now mid c.args.pair.now c.args.place (bytes_or_none c.args.blob.now) bodies c.args.item.now file is ready sure c.write_fresh.ensures.any_moment
    c.append.new.devices c.requires c.append.ensures.blobs (c.in_ok-write_fresh.ensures.sure file sure) (c.append.ensures.any_moment bodies still)

pub returns-in-Err-clause-any_moment : goal.returns-in-Err-clause-any_moment
returns-in-Err-clause-any_moment g c bodies file is ready sure =
    let mid = c.write_fresh.new.devices in
    let still = ready_still g.D.Disk.meaning c.args.devices.now mid c.args.pair.now bodies c.write_fresh.ensures.first c.write_fresh.ensures.second ready in
    between_both g.D.Disk.meaning g.met.D.Disk.rests c.args.devices.now mid c.args.pair.now c.args.place (bytes_or_none c.args.blob.now) bodies c.args.item.now file is ready sure c.write_fresh.ensures.any_moment
    c.append.new.devices c.requires c.append.ensures.blobs (c.in_ok-write_fresh.ensures.sure file sure) (c.append.ensures.any_moment bodies still)
