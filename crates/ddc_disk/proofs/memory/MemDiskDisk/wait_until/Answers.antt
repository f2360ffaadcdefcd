use Rattle.std.proofs.Common.{rules}
use Rattle.ddc_disk.specs.MemoryLaws.{each_by, by_each, all_wider}
use Rattle.ddc_disk.proofs.memory.MemDiskDisk.wait_until.Goals as goal

pub invariant_of-self : goal.invariant_of-self
invariant_of-self c =
    let d = c.args.self.now in
    record {
      in_order = by_each c.max-self.result d.log.calls (all_wider d.log.moment c.max-self.result d.log.calls (each_by d.log.moment d.log.calls d.in_order) (search rules));
      as_read = d.as_read;
      counted = d.counted;
      small = d.small;
    }
