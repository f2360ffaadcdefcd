use Rattle.std.proofs.Common.{◌∙◌, ◌+◌, ◌≤◌, true, false, Some, None, ap, subst, arith, option_copied}
use Rattle.ref_store.specs.Nexts.{IsNext}
use Rattle.ddc_model.specs.State.{State}
use Rattle.ddc_model.specs.Closure.{links_in}
use Rattle.needs_resolver.specs.Walking.{IsIdle, met_of}
use Rattle.needs_resolver.specs.Unsound.{Lacks, IsWholeAt, count_behind}
use Rattle.needs_resolver.proofs.Unsound.{as_told, counted_then, counted_after, one_more, found_first, all_whole, fewer}
use Rattle.needs_resolver.proofs.sound.first_unsound.Goals as goal

pub returns-then-branch-clause-found : goal.returns-then-branch-clause-found
returns-then-branch-clause-found c =
    let state = c.args.index.now.state in
    let next : IsNext state.slots c.loop-name.last c.in-Some.name c.in-Some.slot = as_told c.refs.result.now state.slots (option_copied c.as_ref.result) c.loop-name.last (Some (c.in-Some.name, c.in-Some.slot)) (c.refs.ensures ∙ ap (λ (s : State). s.slots) c.loop-name.invariant.same) c.as_ref.ensures.value c.in-Some.ensures in
    found_first state c.loop-name.last c.in-Some.name c.in-Some.slot next c.loop-name.invariant.whole
    (subst (λ (s : State). Lacks s c.in-Some.name c.in-Some.slot true) c.loop-name.invariant.same (subst (Lacks c.loop-name.index.state c.in-Some.name c.in-Some.slot) c.if-branch.true c.in_ok-lacks.ensures.lacks))

pub loop-name-smaller : goal.loop-name-smaller
loop-name-smaller c =
    let state = c.args.index.now.state in
    let next : IsNext state.slots c.loop-name.last c.in-Some.name c.in-Some.slot = as_told c.refs.result.now state.slots (option_copied c.as_ref.result) c.loop-name.last (Some (c.in-Some.name, c.in-Some.slot)) (c.refs.ensures ∙ ap (λ (s : State). s.slots) c.loop-name.invariant.same) c.as_ref.ensures.value c.in-Some.ensures in
    let less : count_behind state.slots (Some c.in-Some.name) + 1 ≤ count_behind state.slots c.loop-name.last = fewer state.slots c.loop-name.last c.in-Some.name c.in-Some.slot next in
    omega (arith, less)

pub loop-name-preserved : goal.loop-name-preserved
loop-name-preserved c =
    let state = c.args.index.now.state in
    let next : IsNext state.slots c.loop-name.last c.in-Some.name c.in-Some.slot = as_told c.refs.result.now state.slots (option_copied c.as_ref.result) c.loop-name.last (Some (c.in-Some.name, c.in-Some.slot)) (c.refs.ensures ∙ ap (λ (s : State). s.slots) c.loop-name.invariant.same) c.as_ref.ensures.value c.in-Some.ensures in
    let whole : IsWholeAt state c.in-Some.name c.in-Some.slot = subst (λ (s : State). Lacks s c.in-Some.name c.in-Some.slot false) c.loop-name.invariant.same (subst (Lacks c.loop-name.index.state c.in-Some.name c.in-Some.slot) c.if-branch.false c.in_ok-lacks.ensures.lacks) in
    record {
      counted = counted_after state c.loop-name.index.state c.loop-name.last c.in-Some.name (met_of c.loop-name.walk) (met_of c.go_on.new.walk) c.args.index.now.reads c.loop-name.index.reads c.lacks.new.index.reads
          c.loop-name.invariant.same c.loop-name.invariant.counted (c.go_on.ensures.left state c.loop-name.invariant.idle next.behind) (met_of c.lacks.new.walk) c.in_ok-lacks.ensures.left;
      same = c.in_ok-lacks.ensures.same ∙ c.loop-name.invariant.same;
      idle = subst (λ (s : State). IsIdle (links_in s c.in-Some.name.space) (met_of c.lacks.new.walk)) c.loop-name.invariant.same (c.in_ok-lacks.ensures.idle c.if-branch.false);
      whole = one_more state c.loop-name.last c.in-Some.name c.in-Some.slot next c.loop-name.invariant.whole whole;
    }

pub returns-clause-found : goal.returns-clause-found
returns-clause-found c =
    let state = c.args.index.now.state in
    all_whole state c.loop-name.last
    (as_told c.refs.result.now state.slots (option_copied c.as_ref.result) c.loop-name.last None (c.refs.ensures ∙ ap (λ (s : State). s.slots) c.loop-name.invariant.same) c.as_ref.ensures.value c.in_default.ensures)
    c.loop-name.invariant.whole

pub returns-then-branch-clause-each_blob_is_read_once_at_most : goal.returns-then-branch-clause-each_blob_is_read_once_at_most
returns-then-branch-clause-each_blob_is_read_once_at_most c =
    let state = c.args.index.now.state in
    let next : IsNext state.slots c.loop-name.last c.in-Some.name c.in-Some.slot = as_told c.refs.result.now state.slots (option_copied c.as_ref.result) c.loop-name.last (Some (c.in-Some.name, c.in-Some.slot)) (c.refs.ensures ∙ ap (λ (s : State). s.slots) c.loop-name.invariant.same) c.as_ref.ensures.value c.in-Some.ensures in
    counted_then state c.loop-name.index.state c.loop-name.last c.in-Some.name (met_of c.loop-name.walk) (met_of c.go_on.new.walk) c.args.index.now.reads c.loop-name.index.reads c.lacks.new.index.reads
    c.loop-name.invariant.same c.loop-name.invariant.counted (c.go_on.ensures.left state c.loop-name.invariant.idle next.behind) c.in_ok-lacks.ensures.counted

pub returns-in_err-lacks-clause-each_blob_is_read_once_at_most : goal.returns-in_err-lacks-clause-each_blob_is_read_once_at_most
returns-in_err-lacks-clause-each_blob_is_read_once_at_most c =
    let state = c.args.index.now.state in
    let next : IsNext state.slots c.loop-name.last c.in-Some.name c.in-Some.slot = as_told c.refs.result.now state.slots (option_copied c.as_ref.result) c.loop-name.last (Some (c.in-Some.name, c.in-Some.slot)) (c.refs.ensures ∙ ap (λ (s : State). s.slots) c.loop-name.invariant.same) c.as_ref.ensures.value c.in-Some.ensures in
    counted_then state c.loop-name.index.state c.loop-name.last c.in-Some.name (met_of c.loop-name.walk) (met_of c.go_on.new.walk) c.args.index.now.reads c.loop-name.index.reads c.lacks.new.index.reads
    c.loop-name.invariant.same c.loop-name.invariant.counted (c.go_on.ensures.left state c.loop-name.invariant.idle next.behind) c.in_err-lacks.ensures.counted
