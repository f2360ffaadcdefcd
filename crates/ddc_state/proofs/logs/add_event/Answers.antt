use Rattle.std.proofs.Common.{◌≡◌, true, ap, sym, ◌∙◌, subst, rules}
use Rattle.std.specs.FinMap.{insert}
use Rattle.replication_log.specs.Logs.{Log, can_follow, with_event}
use Rattle.ddc_state.proofs.Logging.{found_log, no_log, log_put_back}
use Rattle.ddc_state.proofs.logs.add_event.Goals as goal

pub restore-requires : goal.restore-requires
restore-requires c =
    subst (λ (log : Log). can_follow log c.args.event.number ≡ true) (found_log c.args.logs.now c.args.kept c.args.space.now c.in-Some.log.now c.in-Some.ensures.value) c.requires.follows

pub returns-in_err-restore-clause-err : goal.returns-in_err-restore-clause-err
returns-in_err-restore-clause-err c =
    let same = log_put_back c.args.logs.now c.args.kept c.args.space.now c.in-Some.log.now c.restore.new.self c.in-Some.ensures.value c.in_err-restore.ensures.err in
    search rules

pub returns-in-Some-clause-ok : goal.returns-in-Some-clause-ok
returns-in-Some-clause-ok c =
    ap (insert c.args.logs.now c.args.space.now) (c.in_ok-restore.ensures.ok ∙ ap (λ (log : Log). with_event log c.args.event) (sym (found_log c.args.logs.now c.args.kept c.args.space.now c.in-Some.log.now c.in-Some.ensures.value)))

pub restore-requires-2 : goal.restore-requires-2
restore-requires-2 c =
    subst (λ (log : Log). can_follow log c.args.event.number ≡ true) (no_log c.args.logs.now c.args.kept c.args.space.now c.in_default.ensures.value ∙ sym c.new-log.ensures) c.requires.follows

pub returns-clause-ok : goal.returns-clause-ok
returns-clause-ok c =
    c.in_ok-set.ensures.ok
    ∙ ap (insert c.args.logs.now c.args.space.now) (c.in_ok-restore-2.ensures.ok ∙ ap (λ (log : Log). with_event log c.args.event) (c.new-log.ensures ∙ sym (no_log c.args.logs.now c.args.kept c.args.space.now c.in_default.ensures.value)))
