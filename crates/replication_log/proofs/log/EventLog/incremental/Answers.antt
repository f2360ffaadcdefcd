use Rattle.std.proofs.Common.{◌≡◌, ℕ, ◌+◌, ◌-◌, take, drop, sym, ap, ◌∙◌, arith}
use Rattle.replication_log.specs.Logs.{Log, oldest_of}
use Rattle.replication_log.proofs.Numbers.{after_drop}
use Rattle.replication_log.proofs.log.EventLog.incremental.Goals as goal

pub returns-in-Ok : goal.returns-in-Ok
returns-in-Ok c =
    let start : c.args.after - (c.oldest-oldest.result - 1) ≡ c.args.after + 1 - oldest_of c.args.self.now = omega (arith, c.oldest-oldest.ensures.number, c.oldest-oldest.ensures.law.counted) in (
      (omega (arith, c.if-after-last.false, ap (λ (log : Log). log.last) c.self.view_is), omega (arith, c.if-after-oldest.false, c.oldest-oldest.ensures.number)),
      c.in-Ok.ensures
          ∙ ap (λ (log : Log). take c.args.count (drop (c.args.after - (c.oldest-oldest.result - 1)) log.events)) c.self.view_is
          ∙ ap (λ (n : ℕ). take c.args.count (drop n c.args.self.now.events)) start
          ∙ ap (take c.args.count) (sym (after_drop (oldest_of c.args.self.now) c.args.self.now.events c.args.after c.oldest-oldest.ensures.law.numbered)),
    )
