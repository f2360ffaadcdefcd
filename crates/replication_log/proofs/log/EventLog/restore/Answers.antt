use Rattle.std.proofs.Common.{◌≡◌, true, List, sym, subst}
use Rattle.replication_log.specs.declared.event.Event.{Event}
use Rattle.replication_log.specs.Logs.{Log, can_follow, IsLog}
use Rattle.replication_log.proofs.Newest.{with_is_log}
use Rattle.replication_log.proofs.log.EventLog.restore.Goals as goal

pub invariant_of-self-2 : goal.invariant_of-self-2
invariant_of-self-2 c =
    let log : Log = record { kept = c.self.inside.kept; last = c.self.inside.last; events = c.self.inside.events.items } in
    let may : can_follow log c.args.event.number ≡ true = subst (λ (l : Log). can_follow l c.args.event.number ≡ true) (sym c.self.view_is) c.requires in
    subst (λ (es : List Event). IsLog (record { kept = c.self.inside.kept; last = c.args.event.number; events = es })) (sym c.in_ok-push_newest.ensures.ok) (with_is_log log c.args.event c.self.invariant may)
