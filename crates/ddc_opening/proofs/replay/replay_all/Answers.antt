use Rattle.std.proofs.Common.{◌≡◌, ℕ, List, [], ◌∷◌, ◌++◌, length, refl, sym, ◌∙◌, ap, subst, arith, append_assoc, append-nil}
use Rattle.std.specs.Vec.Iter.{into_iter_items}
use Rattle.ddc_opening.specs.Opening.{IsNoChange}
use Rattle.ddc_opening.specs.inside.Replaying.{AreReplayed, MakesBody}
use Rattle.ddc_opening.proofs.Replaying.{items_more, none_left, replayed_none, replayed_more}
use Rattle.ddc_opening.proofs.replay.replay_all.Goals as goal

pub loop-body-init : goal.loop-body-init
loop-body-init c =
    let given = c.into_iter-body-iterator.ensures.into_iter_gives in
    record {
      all = given.0 ∙ c.into_vec-body-items.ensures;
      left = omega (arith, given.1, c.into_vec-body-items.result.ok.0, ap length given.0);
      replayed = replayed_none c.args.limits c.new-replay.result.index.state c.reserve_exact.new.self.items c.new-replay.ensures.state (c.reserve_exact.ensures.items ∙ c.new-replay.ensures.steps);
      place = refl;
    }

pub loop-body-preserved : goal.loop-body-preserved
loop-body-preserved c =
    let begun = c.loop-body in
    let x = c.in-Some.body in
    let rest = into_iter_items c.next.new.self in
    let given : into_iter_items begun.body-iterator ≡ x ∷ rest = c.in-Some.ensures.steps.0 in
    let old = begun.replay in
    let new = c.make.new.self in
    let made = rw c.in-Ok-true.field-0-test at c.in-Ok-true.ensures in
    let makes : MakesBody x old.index.state new.index.state old.steps.items new.steps.items = subst (λ (l : List ℕ). MakesBody l old.index.state new.index.state old.steps.items new.steps.items) c.as_slice.ensures made in
    record {
      all = append_assoc begun.yielded (x ∷ []) rest ∙ ap (λ (l : List (List ℕ)). begun.yielded ++ l) (sym given) ∙ begun.invariant.all;
      left = omega (arith, c.in-Some.ensures.steps.1, ap length given, begun.invariant.left);
      replayed = replayed_more c.args.limits begun.yielded x old.index.state new.index.state old.steps.items new.steps.items begun.invariant.replayed makes;
      place = omega (arith, c.saturating_add-at.ensures, c.saturating_add.ensures, c.len.ensures, begun.invariant.place, items_more begun.yielded x);
    }

pub returns-in-Ok-false-clause-fault : goal.returns-in-Ok-false-clause-fault
returns-in-Ok-false-clause-fault c =
    let begun = c.loop-body in
    let x = c.in-Some.body in
    let rest = into_iter_items c.next.new.self in
    let given : into_iter_items begun.body-iterator ≡ x ∷ rest = c.in-Some.ensures.steps.0 in
    let replayed = begun.invariant.replayed in
    let none = rw c.in-Ok-false.field-0-test at c.in-Ok-false.ensures in
    let stops = subst (λ (l : List ℕ). IsNoChange begun.replay.index.state l) c.as_slice.ensures none in (
      refl,
      record {
        good = begun.yielded;
        bad = x;
        others = rest;
        all = replayed.all;
        split = sym begun.invariant.all ∙ ap (λ (l : List (List ℕ)). begun.yielded ++ l) given;
        spelled = replayed.spelled;
        are_legal = replayed.are_legal;
        no_change = subst (λ s. IsNoChange s x) replayed.state stops;
        place = begun.invariant.place;
      },
    )

pub returns-clause-replayed : goal.returns-clause-replayed
returns-clause-replayed c =
    let ended = c.loop-body in
    let empty : into_iter_items ended.body-iterator ≡ [] = none_left (into_iter_items ended.body-iterator) (sym ended.invariant.left ∙ c.in-None.ensures.steps.0) in
    let all : ended.yielded ≡ c.args.bodies = sym (append-nil ended.yielded) ∙ ap (λ (l : List (List ℕ)). ended.yielded ++ l) (sym empty) ∙ ended.invariant.all in
    subst (λ (l : List (List ℕ)). AreReplayed c.args.limits l ended.replay.index.state ended.replay.steps.items) all ended.invariant.replayed
