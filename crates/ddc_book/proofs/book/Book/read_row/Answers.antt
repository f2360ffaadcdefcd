use Rattle.std.proofs.Common.{◌≡◌, sym, subst, inr, refl}
use Rattle.std.specs.Prelude.{Some, option_map}
use Rattle.ddc_model.specs.declared.rows.Blob.{Blob}
use Rattle.ddc_model.specs.State.{blob_at}
use Rattle.ddc_model.specs.Commands.{MayRead}
use Rattle.ddc_book.specs.View.{BookView}
use Rattle.ddc_book.proofs.Looking.{row_lies, may_read, read_book, read_stays, read_goes, read_serves, unread_book, unread_goes, rose_of}
use Rattle.ddc_book.proofs.book.Book.read_row.Goals as goal

pub read_extent-requires : goal.read_extent-requires
read_extent-requires g c = row_lies c.args.self.now.cache.index c.args.space.now c.args.hash c.args.row c.requires.placed c.requires.low c.requires.there

pub invariant_of-self : goal.invariant_of-self
invariant_of-self g c =
    let b = c.self.inside in
    read_book g.D.Disk.tells g.D.Disk.meaning g.met.D.Disk.rests b.devices b.index.state b.history b.opened b.index.reads b.pair c.self.invariant c.args.self.now c.self.view_is c.requires.serves.unbroken c.read_extent.new.devices
    c.read_extent.ensures.first c.read_extent.ensures.second c.read_extent.ensures.sure c.read_extent.ensures.as_before

pub invariant_of-self-in-Err-DiskFailed : goal.invariant_of-self-in-Err-DiskFailed
invariant_of-self-in-Err-DiskFailed g c =
    let b = c.self.inside in
    let rose = rose_of c.in-Err-DiskFailed.field-0 c.in-Err-DiskFailed.field-0-is c.in-Err-DiskFailed.ensures.fault in
    unread_book g.D.Disk.tells g.D.Disk.meaning g.met.D.Disk.rests b.devices b.index.state b.history b.opened b.index.reads b.pair c.self.invariant c.args.self.now c.self.view_is c.requires.serves.unbroken c.read_extent.new.devices
    c.read_extent.ensures.first c.read_extent.ensures.second c.read_extent.ensures.sure c.read_extent.ensures.as_before
    c.faults-before.result c.faults.result c.note_broken.new.self c.note_broken.ensures c.faults-before.ensures c.faults.ensures rose

pub invariant_of-self-in-Err : goal.invariant_of-self-in-Err
invariant_of-self-in-Err g c =
    let b = c.self.inside in
    read_book g.D.Disk.tells g.D.Disk.meaning g.met.D.Disk.rests b.devices b.index.state b.history b.opened b.index.reads b.pair c.self.invariant c.args.self.now c.self.view_is c.requires.serves.unbroken c.read_extent.new.devices
    c.read_extent.ensures.first c.read_extent.ensures.second c.read_extent.ensures.sure c.read_extent.ensures.as_before

pub returns-in-Ok-clause-bytes : goal.returns-in-Ok-clause-bytes
returns-in-Ok-clause-bytes g c =
    let b = c.self.inside in
    let there = subst (λ (v : BookView g.row.D.Denot). option_map (λ (blob : Blob). blob.row) (blob_at v.cache.index c.args.space.now c.args.hash) ≡ Some c.args.row) (sym c.self.view_is) c.requires.there in (
      subst (λ (v : BookView g.row.D.Denot). MayRead v.cache c.args.space.now c.args.hash c.in-Ok.bytes.items) c.self.view_is
          (may_read g.D.Disk.tells g.D.Disk.meaning b.devices b.index.state c.args.space.now c.args.hash c.args.row c.in-Ok.bytes.items there c.in-Ok.ensures.length c.in-Ok.ensures.bytes),
      read_stays g.D.Disk.tells g.D.Disk.meaning g.met.D.Disk.rests b.devices b.index.state b.history b.opened b.index.reads b.pair c.self.invariant c.args.self.now c.self.view_is c.requires.serves.unbroken c.read_extent.new.devices
          c.read_extent.ensures.first c.read_extent.ensures.second c.read_extent.ensures.sure c.read_extent.ensures.as_before,
      read_serves g.D.Disk.tells g.D.Disk.meaning g.met.D.Disk.rests b.devices b.index.state b.history b.opened b.index.reads b.pair c.self.invariant c.args.self.now c.self.view_is c.requires.serves.unbroken c.read_extent.new.devices
          c.read_extent.ensures.first c.read_extent.ensures.second c.read_extent.ensures.sure c.read_extent.ensures.as_before,
    )

pub returns-in-Ok-clause-goes_on : goal.returns-in-Ok-clause-goes_on
returns-in-Ok-clause-goes_on g c =
    let b = c.self.inside in
    read_goes g.D.Disk.tells g.D.Disk.meaning g.met.D.Disk.rests b.devices b.index.state b.history b.opened b.index.reads b.pair c.self.invariant c.args.self.now c.self.view_is c.requires.serves.unbroken c.read_extent.new.devices
    c.read_extent.ensures.first c.read_extent.ensures.second c.read_extent.ensures.sure c.read_extent.ensures.as_before

pub returns-in-Err-DiskFailed-clause-goes_on : goal.returns-in-Err-DiskFailed-clause-goes_on
returns-in-Err-DiskFailed-clause-goes_on g c =
    let b = c.self.inside in
    let rose = rose_of c.in-Err-DiskFailed.field-0 c.in-Err-DiskFailed.field-0-is c.in-Err-DiskFailed.ensures.fault in
    unread_goes g.D.Disk.tells g.D.Disk.meaning g.met.D.Disk.rests b.devices b.index.state b.history b.opened b.index.reads b.pair c.self.invariant c.args.self.now c.self.view_is c.requires.serves.unbroken c.read_extent.new.devices
    c.read_extent.ensures.first c.read_extent.ensures.second c.read_extent.ensures.sure c.read_extent.ensures.as_before
    c.faults-before.result c.faults.result c.note_broken.new.self c.note_broken.ensures c.faults-before.ensures c.faults.ensures rose

pub returns-in-Err : goal.returns-in-Err
returns-in-Err g c =
    let b = c.self.inside in
    record {
      bytes = tt;
      fault = inr (
        refl,
        read_stays g.D.Disk.tells g.D.Disk.meaning g.met.D.Disk.rests b.devices b.index.state b.history b.opened b.index.reads b.pair c.self.invariant c.args.self.now c.self.view_is c.requires.serves.unbroken c.read_extent.new.devices
            c.read_extent.ensures.first c.read_extent.ensures.second c.read_extent.ensures.sure c.read_extent.ensures.as_before,
      );
      same = tt;
      goes_on = read_goes g.D.Disk.tells g.D.Disk.meaning g.met.D.Disk.rests b.devices b.index.state b.history b.opened b.index.reads b.pair c.self.invariant c.args.self.now c.self.view_is c.requires.serves.unbroken c.read_extent.new.devices
          c.read_extent.ensures.first c.read_extent.ensures.second c.read_extent.ensures.sure c.read_extent.ensures.as_before;
    }
