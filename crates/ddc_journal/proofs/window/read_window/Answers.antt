use Rattle.std.proofs.Common.{◌≡◌, ◌+◌, ◌≤◌, ◌∙◌, ℕ, length, take, drop, sym, ap, arith}
use Rattle.ddc_disk.specs.Told.{at_told}
use Rattle.ddc_journal.proofs.Making.{if_told}
use Rattle.ddc_journal.proofs.Windows.{goes, stopped, taken}
use Rattle.ddc_journal.proofs.window.read_window.Goals as goal

pub returns-clause-goes : goal.returns-clause-goes
returns-clause-goes g c =
    let walk = c.args.walk.now in
    let count = c.in-Ok-take_items.count in
    let takes = c.in-Ok-take_items.ensures in
    (omega arith, goes c.in-Ok-take_items.stop walk.bodies c.take_items.new.bodies c.deref.result.now c.args.size walk.at count takes c.requires (omega (arith, ap length c.deref.ensures.value, c.in-Ok.ensures.size)))

pub returns-clause-reads : goal.returns-clause-reads
returns-clause-reads g c = if_told (g.D.Disk.meaning c.args.disk.now).held _ (λ file is size_is before.
    let walk = c.args.walk.now in
    let piece = c.deref.result.now in
    let count = c.in-Ok-take_items.count in
    let stop = c.in-Ok-take_items.stop in
    let takes = c.in-Ok-take_items.ensures in
    let n = c.min.result in
    let read = at_told (g.D.Disk.meaning c.args.disk.now).held (λ f. walk.at + n ≤ length f → c.in-Ok.piece.items ≡ take n (drop walk.at f)) file is c.in-Ok.ensures.bytes (omega arith) in
    let cut : piece ≡ take (length piece) (drop walk.at file) = c.deref.ensures.value ∙ read ∙ ap (λ (k : ℕ). take k (drop walk.at file)) (sym (ap length c.deref.ensures.value ∙ c.in-Ok.ensures.size)) in
    (taken file walk.bodies c.take_items.new.bodies piece walk.at count stop before cut takes, stopped file walk.bodies c.take_items.new.bodies piece walk.at count stop before cut takes))
