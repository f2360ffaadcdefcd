use Rattle.std.specs.Prelude.{Some}
use Rattle.std.proofs.Common.{refl, length, sym, ◌∙◌, ap, arith}
use Rattle.ddc_disk.specs.Memory.{memory_history}
use Rattle.ddc_disk.specs.declared.call.CallKind.TheVariants.{Write}
use Rattle.ddc_disk.proofs.Calls.{call_order, call_continues, call_cause, write_tears, write_bytes, far_order, far_continues, far_calm, far_tears, far_reads, far_cause, same_small}
use Rattle.ddc_disk.proofs.memory.MemDiskDisk.write_at.Goals as goal

pub invariant_of-self : goal.invariant_of-self
invariant_of-self c =
    let d = c.args.self.now in
    let h = memory_history d.log in
    let new = memory_history c.refuse.new.log in
    let same = ap (λ v. v.items) c.refuse.ensures.bytes in
    record {
      in_order = far_order h d.in_order new c.refuse.ensures.after;
      as_read = same ∙ d.as_read ∙ sym (far_reads h d.in_order new c.refuse.ensures.after);
      counted = c.refuse.ensures.failed d.counted;
      small = same_small _ _ same d.small;
    }

pub returns-then-is_none-clause-crash : goal.returns-then-is_none-clause-crash
returns-then-is_none-clause-crash c = let d = c.args.self.now in far_tears (memory_history d.log) d.in_order (memory_history c.refuse.new.log) c.refuse.ensures.after c.args.at (length c.args.bytes.now)

pub returns-then-is_none-clause-too_far : goal.returns-then-is_none-clause-too_far
returns-then-is_none-clause-too_far c far = let d = c.args.self.now in (refl, ap Some (far_reads (memory_history d.log) d.in_order (memory_history c.refuse.new.log) c.refuse.ensures.after), far_calm (memory_history d.log) d.in_order (memory_history c.refuse.new.log) c.refuse.ensures.after)

pub returns-then-is_none-clause-time : goal.returns-then-is_none-clause-time
returns-then-is_none-clause-time c = let d = c.args.self.now in far_continues (memory_history d.log) d.in_order (memory_history c.refuse.new.log) c.refuse.ensures.after

pub returns-then-is_none-clause-cause : goal.returns-then-is_none-clause-cause
returns-then-is_none-clause-cause c = let d = c.args.self.now in far_cause (memory_history d.log) d.in_order (memory_history c.refuse.new.log) c.refuse.ensures.after c.refuse.result

pub invariant_of-self-2 : goal.invariant_of-self-2
invariant_of-self-2 c =
    let d = c.args.self.now in
    let h = memory_history d.log in
    let new = memory_history c.write_log.new.log in
    record {
      in_order = call_order h d.in_order (Write c.args.at c.args.bytes.now) c.write_log.result new c.write_log.ensures.after;
      as_read = write_bytes h d.in_order c.args.at c.args.bytes.now c.write_log.result new d.log.bytes.items c.write_log.new.log.bytes.items d.as_read c.write_log.ensures.after c.write_log.ensures.bytes;
      counted = c.write_log.ensures.failed d.counted;
      small = omega (arith, c.write_log.new.log.bytes.small, c.write_log.new.log.bytes.ok.0, c.write_log.new.log.bytes.ok.1);
    }

pub returns-clause-crash : goal.returns-clause-crash
returns-clause-crash c = let d = c.args.self.now in write_tears (memory_history d.log) d.in_order c.args.at c.args.bytes.now c.write_log.result (memory_history c.write_log.new.log) c.write_log.ensures.after

pub returns-clause-time : goal.returns-clause-time
returns-clause-time c = let d = c.args.self.now in call_continues (memory_history d.log) d.in_order (Write c.args.at c.args.bytes.now) c.write_log.result (memory_history c.write_log.new.log) c.write_log.ensures.after

pub returns-clause-cause : goal.returns-clause-cause
returns-clause-cause c = let d = c.args.self.now in call_cause (memory_history d.log) d.in_order (Write c.args.at c.args.bytes.now) c.write_log.result (memory_history c.write_log.new.log) c.write_log.ensures.after
