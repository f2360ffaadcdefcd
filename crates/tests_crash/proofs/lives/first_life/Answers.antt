use Rattle.std.proofs.Common.{sym, subst, arith}
use Rattle.ddc_disk.specs.Images.{devices_line}
use Rattle.ddc_disk.specs.MemDisks.{told_by}
use Rattle.ddc_disk.specs.declared.devices.Devices.{Devices}
use Rattle.ddc_disk.specs.declared.mem_disk.MemDisk.{MemDisk}
use Rattle.ddc_model.specs.Limits.{standard}
use Rattle.ddc_book.specs.Tied.{GoesOnFrom}
use Rattle.ddc_book.specs.View.{book_line, opened_count}
use Rattle.tests_crash.proofs.Moments.{since_made}
use Rattle.tests_crash.proofs.lives.first_life.Goals as goal

pub returns-clause-each : goal.returns-clause-each
returns-clause-each c =
    let made = c.in_ok-book in
    let now = c.add_space.new.book in
    let devices = c.closed.result.0 in
    let steps = c.closed.result.1 in
    since_made standard steps (opened_count steps) now.opened (book_line told_by made.book) (devices_line told_by devices)
    (omega (arith, c.add_space.ensures.honest.opening, made.ensures.honest.time)) made.ensures.before
    (subst (λ (d : Devices MemDisk). GoesOnFrom (book_line told_by made.book) told_by d) (sym c.closed.ensures.devices) c.add_space.ensures.goes_on)
    c.closed.ensures.since
