use Rattle.std.proofs.Common.{◌≡◌, sym}
use Rattle.std.specs.Prelude.{Result, Ok, Err, OnOk, false}
use Rattle.std.specs.Result.{is_err}
use Rattle.ddc_disk.specs.Disk.{IsSure}
use Rattle.ddc_disk.specs.Told.{at_told}
use Rattle.ddc_journal.specs.Pairs.{pair_kind, takes_second}
use Rattle.ddc_journal.specs.inside.PairFiles.{device_of}
use Rattle.ddc_journal.specs.inside.Scanning.{IsScan}
use Rattle.ddc_journal.proofs.Making.{kept_sure}
use Rattle.ddc_journal.proofs.Pairing.{at_both, file_of, if_both, open_scanned, told_device}
use Rattle.ddc_journal.proofs.pair.loading.load.Goals as goal

when_ok : {T E : Type 0} (r : Result T E) (P : Type 0) → is_err r ≡ false → OnOk r P → P
when_ok (Ok x) P ok holds = holds
when_ok (Err e) P ok holds = cc ok

pub returns-clause-ready : goal.returns-clause-ready
returns-clause-ready g c = if_both g.D.Disk.meaning c.args.devices.now _ (λ a b is_a is_b.
    let m = g.D.Disk.meaning in
    let s = c.sync_both.new.devices in
    let t = c.is_second_taken.new.devices in
    let new = c.scan_file.new.devices in
    let second = c.in-Ok.second in
    let scan = c.in-Ok-scan_file.scan in
    let looks = c.is_second_taken.ensures.looks in
    let reads = c.scan_file.ensures.looks in
    let sure = at_both m c.args.devices.now (λ x y. IsSure (m s.first) x × IsSure (m s.second) y) a b is_a is_b (when_ok c.sync_both.result _ (sym c.if-is_err.ensures.value) c.sync_both.ensures.sure) in
    let first = kept_sure (m s.first) (m t.first) a sure.0 looks.first.held looks.first.calm in
    let other = kept_sure (m s.second) (m t.second) b sure.1 looks.second.held looks.second.calm in
    let value = at_both m s (λ x y. second ≡ takes_second x y) a b sure.0.held sure.1.held c.in-Ok.ensures.value in
    let is = at_told (m (device_of second t)).held (λ f. IsScan (pair_kind c.args.newest second) f scan.version scan.generation scan.bodies scan.end) (file_of second a b) (told_device m t second a b first.held other.held) c.in-Ok-scan_file.ensures.loads in
    record {
      first = a;
      second = b;
      first_sure = kept_sure (m t.first) (m new.first) a first reads.first.held reads.first.calm;
      second_sure = kept_sure (m t.second) (m new.second) b other reads.second.held reads.second.calm;
      opened = open_scanned a b second c.args.newest scan.version scan.generation scan.bodies scan.end value is;
    })
