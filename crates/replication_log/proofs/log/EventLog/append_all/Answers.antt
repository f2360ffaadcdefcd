use Rattle.std.proofs.Common.{◌+◌, length, refl, sym, ap, ◌∙◌, subst}
use Rattle.replication_log.specs.Logs.{Log, IsLog}
use Rattle.replication_log.specs.Several.{with_each}
use Rattle.replication_log.proofs.Each.{each_is_log, each_read}
use Rattle.replication_log.proofs.log.EventLog.append_all.Goals as goal

pub invariant_of-self-2 : goal.invariant_of-self-2
invariant_of-self-2 c =
    let log : Log = record { kept = c.self.inside.kept; last = c.self.inside.last; events = c.self.inside.events.items } in
    subst IsLog (sym (each_read log c.args.op c.args.spots.now (c.self.inside.last + length c.args.spots.now) c.push_each.new.events.items refl c.in_ok-push_each.ensures.ok))
    (each_is_log log c.args.op c.args.spots.now c.self.invariant)

pub returns-clause-ok : goal.returns-clause-ok
returns-clause-ok c =
    let log : Log = record { kept = c.self.inside.kept; last = c.self.inside.last; events = c.self.inside.events.items } in
    each_read log c.args.op c.args.spots.now (c.self.inside.last + length c.args.spots.now) c.push_each.new.events.items refl c.in_ok-push_each.ensures.ok
    ∙ ap (λ (log : Log). with_each log c.args.op c.args.spots.now) c.self.view_is
