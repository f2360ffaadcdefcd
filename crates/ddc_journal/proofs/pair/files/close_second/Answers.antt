use Rattle.std.proofs.Common.{◌≤◌, refl}
use Rattle.std.specs.Prelude.{true}
use Rattle.ddc_journal.specs.Journal.{rank}
use Rattle.ddc_journal.proofs.PairLent.{on_second, second_sure}
use Rattle.ddc_journal.proofs.pair.files.close_second.Goals as goal

pub returns-in_err-close-clause-any_moment : goal.returns-in_err-close-clause-any_moment
returns-in_err-close-clause-any_moment g c first second first_is second_is =
    let m = g.D.Disk.meaning in
    let rests = g.met.D.Disk.rests in
    let old = c.args.devices.now in
    on_second m rests old c.second.result.now c.second.ensures.lent true refl c.close.new.disk (λ image. rank image ≤ rank second) first first_is
    (c.close.ensures.any_moment second (second_sure m rests old c.second.result.now c.second.ensures.lent true refl second second_is))

pub returns-clause-any_moment : goal.returns-clause-any_moment
returns-clause-any_moment g c first second first_is second_is =
    let m = g.D.Disk.meaning in
    let rests = g.met.D.Disk.rests in
    let old = c.args.devices.now in
    on_second m rests old c.second.result.now c.second.ensures.lent true refl c.close.new.disk (λ image. rank image ≤ rank second) first first_is
    (c.close.ensures.any_moment second (second_sure m rests old c.second.result.now c.second.ensures.lent true refl second second_is))

pub returns-clause-closed : goal.returns-clause-closed
returns-clause-closed g c second second_is =
    c.in_ok-close.ensures.closed second (second_sure g.D.Disk.meaning g.met.D.Disk.rests c.args.devices.now c.second.result.now c.second.ensures.lent true refl second second_is)
