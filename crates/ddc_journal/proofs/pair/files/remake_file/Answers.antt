use Rattle.ddc_disk.specs.Disk.{Meaning}
use Rattle.ddc_journal.specs.inside.Closing.{IsRemade, IsSureOf}
use Rattle.ddc_journal.proofs.PairLent.{first_sure, made_first, made_second, on_first, on_second, second_sure}
use Rattle.ddc_journal.proofs.pair.files.remake_file.Goals as goal

pub returns-in_err-remake-clause-any_moment : goal.returns-in_err-remake-clause-any_moment
returns-in_err-remake-clause-any_moment g c file other bodies sure other_is are =
    let m = g.D.Disk.meaning in
    let rests = g.met.D.Disk.rests in
    let old = c.args.devices.now in
    on_second m rests old c.second.result.now c.second.ensures.lent c.args.second c.if-second.true c.remake.new.disk (IsRemade c.args.version c.args.generation bodies file) other other_is
    (c.remake.ensures.any_moment file bodies (second_sure m rests old c.second.result.now c.second.ensures.lent c.args.second c.if-second.true file sure) are)

pub returns-in_ok-remake-clause-any_moment : goal.returns-in_ok-remake-clause-any_moment
returns-in_ok-remake-clause-any_moment g c file other bodies sure other_is are =
    let m = g.D.Disk.meaning in
    let rests = g.met.D.Disk.rests in
    let old = c.args.devices.now in
    on_second m rests old c.second.result.now c.second.ensures.lent c.args.second c.if-second.true c.remake.new.disk (IsRemade c.args.version c.args.generation bodies file) other other_is
    (c.remake.ensures.any_moment file bodies (second_sure m rests old c.second.result.now c.second.ensures.lent c.args.second c.if-second.true file sure) are)

pub returns-in_ok-remake-clause-made : goal.returns-in_ok-remake-clause-made
returns-in_ok-remake-clause-made g c file bodies sure are =
    let m = g.D.Disk.meaning in
    let rests = g.met.D.Disk.rests in
    let old = c.args.devices.now in
    made_second m rests old c.args.second c.if-second.true c.remake.new.disk (λ (d : Meaning). IsSureOf d c.args.version c.args.generation bodies)
    (c.in_ok-remake.ensures.made file bodies (second_sure m rests old c.second.result.now c.second.ensures.lent c.args.second c.if-second.true file sure) are)

pub returns-in_err-remake-2-clause-any_moment : goal.returns-in_err-remake-2-clause-any_moment
returns-in_err-remake-2-clause-any_moment g c file other bodies sure other_is are =
    let m = g.D.Disk.meaning in
    let rests = g.met.D.Disk.rests in
    let old = c.args.devices.now in
    on_first m rests old c.first.result.now c.first.ensures.lent c.args.second c.if-second.false c.remake-else-second.new.disk (IsRemade c.args.version c.args.generation bodies file) other other_is
    (c.remake-else-second.ensures.any_moment file bodies (first_sure m rests old c.first.result.now c.first.ensures.lent c.args.second c.if-second.false file sure) are)

pub returns-in_ok-remake-2-clause-any_moment : goal.returns-in_ok-remake-2-clause-any_moment
returns-in_ok-remake-2-clause-any_moment g c file other bodies sure other_is are =
    let m = g.D.Disk.meaning in
    let rests = g.met.D.Disk.rests in
    let old = c.args.devices.now in
    on_first m rests old c.first.result.now c.first.ensures.lent c.args.second c.if-second.false c.remake-else-second.new.disk (IsRemade c.args.version c.args.generation bodies file) other other_is
    (c.remake-else-second.ensures.any_moment file bodies (first_sure m rests old c.first.result.now c.first.ensures.lent c.args.second c.if-second.false file sure) are)

pub returns-in_ok-remake-2-clause-made : goal.returns-in_ok-remake-2-clause-made
returns-in_ok-remake-2-clause-made g c file bodies sure are =
    let m = g.D.Disk.meaning in
    let rests = g.met.D.Disk.rests in
    let old = c.args.devices.now in
    made_first m rests old c.args.second c.if-second.false c.remake-else-second.new.disk (λ (d : Meaning). IsSureOf d c.args.version c.args.generation bodies)
    (c.in_ok-remake-2.ensures.made file bodies (first_sure m rests old c.first.result.now c.first.ensures.lent c.args.second c.if-second.false file sure) are)
