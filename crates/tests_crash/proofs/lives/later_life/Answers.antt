use Rattle.std.proofs.Common.{sym, subst, arith}
use Rattle.ddc_disk.specs.Images.{devices_line}
use Rattle.ddc_disk.specs.MemDisks.{told_by}
use Rattle.ddc_disk.specs.declared.devices.Devices.{Devices}
use Rattle.ddc_disk.specs.declared.mem_disk.MemDisk.{MemDisk}
use Rattle.ddc_model.specs.Limits.{standard}
use Rattle.ddc_book.specs.Tied.{GoesOnFrom}
use Rattle.ddc_book.specs.View.{book_line, opened_count, OpensFrom}
use Rattle.tests_crash.proofs.Moments.{since_loaded}
use Rattle.tests_crash.proofs.lives.later_life.Goals as goal

pub returns-clause-each : goal.returns-clause-each
returns-clause-each c =
    let loaded = c.in_ok-book in
    let now = c.add_blob.new.book in
    let devices = c.closed.result.0 in
    let steps = c.closed.result.1 in
    since_loaded (OpensFrom (opened_count steps) standard steps) now.opened (devices_line told_by c.args.devices) (book_line told_by loaded.book) (devices_line told_by devices)
    (omega (arith, c.add_blob.ensures.honest.opening, loaded.ensures.honest.time)) loaded.ensures.before
    (subst (λ (d : Devices MemDisk). GoesOnFrom (book_line told_by loaded.book) told_by d) (sym c.closed.ensures.devices) c.add_blob.ensures.goes_on)
    c.closed.ensures.since
