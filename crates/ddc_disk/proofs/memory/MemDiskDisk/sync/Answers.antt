use Rattle.std.proofs.Common.{sym, ◌∙◌, ap}
use Rattle.ddc_disk.specs.Memory.{memory_history}
use Rattle.ddc_disk.specs.declared.call.CallKind.TheVariants.{Sync}
use Rattle.ddc_disk.proofs.Calls.{call_order, call_continues, call_cause, sync_calm, sync_reads, sync_durable, same_small}
use Rattle.ddc_disk.proofs.memory.MemDiskDisk.sync.Goals as goal

pub invariant_of-self : goal.invariant_of-self
invariant_of-self c =
    let d = c.args.self.now in
    let h = memory_history d.log in
    let new = memory_history c.sync_log.new.log in
    let same = ap (λ v. v.items) c.sync_log.ensures.bytes in
    record {
      in_order = call_order h d.in_order Sync c.sync_log.result new c.sync_log.ensures.after;
      as_read = same ∙ d.as_read ∙ sym (sync_reads h d.in_order c.sync_log.result new c.sync_log.ensures.after);
      counted = c.sync_log.ensures.failed d.counted;
      small = same_small _ _ same d.small;
    }

pub returns-clause-durable : goal.returns-clause-durable
returns-clause-durable c = let d = c.args.self.now in sync_durable (memory_history d.log) d.in_order c.sync_log.result (memory_history c.sync_log.new.log) c.sync_log.ensures.after

pub returns-clause-calm : goal.returns-clause-calm
returns-clause-calm c = let d = c.args.self.now in sync_calm (memory_history d.log) d.in_order c.sync_log.result (memory_history c.sync_log.new.log) c.sync_log.ensures.after

pub returns-clause-time : goal.returns-clause-time
returns-clause-time c = let d = c.args.self.now in call_continues (memory_history d.log) d.in_order Sync c.sync_log.result (memory_history c.sync_log.new.log) c.sync_log.ensures.after

pub returns-clause-cause : goal.returns-clause-cause
returns-clause-cause c = let d = c.args.self.now in call_cause (memory_history d.log) d.in_order Sync c.sync_log.result (memory_history c.sync_log.new.log) c.sync_log.ensures.after
