use Rattle.std.proofs.Common.{◌+◌, ◌^◌, ◌<◌, length, ap, sym, ◌∙◌, subst, rules}
use Rattle.std.specs.FinMap.{insert}
use Rattle.replication_log.specs.declared.event.EventOp.TheVariants.{Deleted}
use Rattle.replication_log.specs.Logs.{Log}
use Rattle.replication_log.specs.Several.{with_each}
use Rattle.ddc_state.proofs.Claims.{positive}
use Rattle.ddc_state.proofs.Logging.{found_log, no_log, log_put_back, deletions_of_some}
use Rattle.ddc_state.proofs.logs.add_deletions.Goals as goal

pub append_all-requires : goal.append_all-requires
append_all-requires c =
    subst (λ (log : Log). log.last + length c.args.spots.now < 2 ^ 64) (found_log c.args.logs.now c.args.kept c.args.space.now c.in-Some.log.now c.in-Some.ensures.value) c.requires.numbers

pub returns-in_err-append_all-clause-err : goal.returns-in_err-append_all-clause-err
returns-in_err-append_all-clause-err c =
    let same = log_put_back c.args.logs.now c.args.kept c.args.space.now c.in-Some.log.now c.append_all.new.self c.in-Some.ensures.value c.in_err-append_all.ensures.err in
    search rules

pub returns-in-Some-clause-ok : goal.returns-in-Some-clause-ok
returns-in-Some-clause-ok c =
    ap (insert c.args.logs.now c.args.space.now)
    (c.in_ok-append_all.ensures.ok ∙ ap (λ (log : Log). with_each log Deleted c.args.spots.now) (sym (found_log c.args.logs.now c.args.kept c.args.space.now c.in-Some.log.now c.in-Some.ensures.value)))
    ∙ sym (deletions_of_some c.args.logs.now c.args.kept c.args.space.now c.args.spots.now (positive (length c.args.spots.now) (sym c.is_empty.ensures ∙ c.if-is_empty.false)))

pub append_all-requires-2 : goal.append_all-requires-2
append_all-requires-2 c =
    subst (λ (log : Log). log.last + length c.args.spots.now < 2 ^ 64) (no_log c.args.logs.now c.args.kept c.args.space.now c.in_default.ensures.value ∙ sym c.new-log.ensures) c.requires.numbers

pub returns-clause-ok : goal.returns-clause-ok
returns-clause-ok c =
    c.in_ok-set.ensures.ok
    ∙ ap (insert c.args.logs.now c.args.space.now)
    (c.in_ok-append_all-2.ensures.ok ∙ ap (λ (log : Log). with_each log Deleted c.args.spots.now) (c.new-log.ensures ∙ sym (no_log c.args.logs.now c.args.kept c.args.space.now c.in_default.ensures.value)))
    ∙ sym (deletions_of_some c.args.logs.now c.args.kept c.args.space.now c.args.spots.now (positive (length c.args.spots.now) (sym c.is_empty.ensures ∙ c.if-is_empty.false)))
