use Rattle.std.proofs.Common.{[], sym, ap, subst}
use Rattle.ddc_disk.specs.Disk.{IsSure}
use Rattle.ddc_disk.specs.Told.{told_file, at_told}
use Rattle.ddc_journal.specs.Pairs.{PairView, IsNewPair, IsPairReady}
use Rattle.ddc_opening.specs.Opening.{version}
use Rattle.ddc_opening.proofs.Both.{of_told}
use Rattle.ddc_opening.proofs.Creating.{creates}
use Rattle.ddc_opening.proofs.create.make_pair.Goals as goal

pub returns-in-Ok-clause-creates : goal.returns-in-Ok-clause-creates
returns-in-Ok-clause-creates g c =
    creates g.D.Disk.meaning c.args.limits c.args.devices.now c.sync_blobs.new.devices c.create.new.devices c.sync_blobs.ensures.as_before
    c.commands_stay_sound.ensures.empty c.create.ensures.cause.later c.create.ensures.past c.create.ensures.any_moment

pub returns-in-Err-clause-creates : goal.returns-in-Err-clause-creates
returns-in-Err-clause-creates g c =
    creates g.D.Disk.meaning c.args.limits c.args.devices.now c.sync_blobs.new.devices c.create.new.devices c.sync_blobs.ensures.as_before
    c.commands_stay_sound.ensures.empty c.create.ensures.cause.later c.create.ensures.past c.create.ensures.any_moment

pub returns-in-Ok-clause-ready : goal.returns-in-Ok-clause-ready
returns-in-Ok-clause-ready g c tell =
    let m = g.D.Disk.meaning in
    let told = g.met.D.Disk.told in
    let mid = c.sync_blobs.new.devices in
    let new = c.create.new.devices in
    let blobs = told_file (m c.args.devices.now.blobs).held (told c.args.devices.now.blobs tell) in
    let sure = at_told (m c.args.devices.now.blobs).held (λ file. IsSure (m mid.blobs) file) blobs.0 blobs.1 c.in_ok-sync_blobs.ensures.sure in
    record {
      version_is = ap (λ (pair : PairView). pair.version) c.in-Ok.ensures.pair;
      bodies = [];
      journal = of_told m mid (IsPairReady m new c.in-Ok.pair []) (told mid.first tell) (told mid.second tell) c.in-Ok.ensures.ready;
      spelled = tt;
      file = blobs.0;
      blobs_sure = subst (λ d. IsSure (m d) blobs.0) (sym c.in-Ok.ensures.blobs) sure;
    }

pub returns-in-Ok-clause-fresh : goal.returns-in-Ok-clause-fresh
returns-in-Ok-clause-fresh g c tell =
    let m = g.D.Disk.meaning in
    let told = g.met.D.Disk.told in
    let mid = c.sync_blobs.new.devices in
    of_told m mid (IsNewPair m c.create.new.devices version) (told mid.first tell) (told mid.second tell) c.in-Ok.ensures.fresh
