use Rattle.std.proofs.Common.{length}
use Rattle.ddc_disk.specs.Disk.{MayTear}
use Rattle.ddc_disk.specs.Since.{tears_once, goes_on}
use Rattle.ddc_disk.proofs.write_sure.Goals as goal

pub returns-in_err-write_at-clause-any_moment : goal.returns-in_err-write_at-clause-any_moment
returns-in_err-write_at-clause-any_moment g c =
    tears_once (g.D.Disk.meaning c.args.disk.now).line (g.D.Disk.meaning c.write_at.new.self).line c.args.at (length c.args.bytes.now) (g.met.D.Disk.rests c.args.disk.now) c.write_at.ensures.crash c.write_at.ensures.time

pub returns-clause-any_moment : goal.returns-clause-any_moment
returns-clause-any_moment g c =
    let P = MayTear c.args.at (length c.args.bytes.now) (g.D.Disk.meaning c.args.disk.now).line in
    let torn = tears_once (g.D.Disk.meaning c.args.disk.now).line (g.D.Disk.meaning c.write_at.new.self).line c.args.at (length c.args.bytes.now) (g.met.D.Disk.rests c.args.disk.now) c.write_at.ensures.crash c.write_at.ensures.time in
    goes_on (g.D.Disk.meaning c.args.disk.now).line (g.D.Disk.meaning c.write_at.new.self).line (g.D.Disk.meaning c.sync.new.self).line P torn c.sync.ensures.time (λ f now. c.write_at.ensures.crash f (c.sync.ensures.calm f now))
