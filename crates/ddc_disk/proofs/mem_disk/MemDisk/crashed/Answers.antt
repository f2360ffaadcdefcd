use Rattle.std.proofs.Common.{rules, arith, take, subst, List}
use Rattle.std.proofs.lemmas.List.{take_all}
use Rattle.ddc_disk.specs.declared.call.DiskCall.{DiskCall}
use Rattle.ddc_disk.specs.Memory.{fresh, after_calls, memory_history, IsCrash}
use Rattle.ddc_disk.specs.MemoryLaws.{is_now}
use Rattle.ddc_disk.proofs.mem_disk.MemDisk.crashed.Goals as goal

pub returns-clause-now : goal.returns-clause-now
returns-clause-now c all =
    let d = c.args.self.now in
    let image = c.in_ok-start.start.items in
    let made : IsCrash (after_calls (fresh d.log.start.items) (take c.args.calls d.log.calls)) image = search rules in
    is_now (memory_history d.log) d.in_order d.log.moment (omega arith) image
    (subst (λ (l : List DiskCall). IsCrash (after_calls (fresh d.log.start.items) l) image) (take_all c.args.calls d.log.calls all) made)
