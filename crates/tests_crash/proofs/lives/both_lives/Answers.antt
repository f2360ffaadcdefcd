use Rattle.ddc_disk.specs.Images.{devices_line}
use Rattle.ddc_disk.specs.MemDisks.{told_by}
use Rattle.ddc_model.specs.Limits.{standard}
use Rattle.ddc_book.specs.View.{opened_count, sure_count, OpensFrom}
use Rattle.tests_crash.specs.Honest.{NoneOrFrom}
use Rattle.tests_crash.proofs.Moments.{in_both, held_sound}
use Rattle.tests_crash.proofs.lives.both_lives.Goals as goal

pub later_life-requires : goal.later_life-requires
later_life-requires c =
    let first = c.in_ok-devices in
    held_sound standard first.first (sure_count first.first) first.devices first.ensures.last

pub returns-clause-each : goal.returns-clause-each
returns-clause-each c =
    let first = c.in_ok-devices in
    let later = c.in_ok-devices-2 in
    in_both (NoneOrFrom standard first.first) (OpensFrom (opened_count later.later) standard later.later) (devices_line told_by first.devices) (devices_line told_by later.devices) first.ensures.each later.ensures.each
