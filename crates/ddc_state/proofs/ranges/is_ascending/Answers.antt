use Rattle.std.proofs.Common.{◌≡◌, ℕ, ◌+◌, ◌-◌, ◌≤◌, true, drop, ap, sym, ◌∙◌, arith}
use Rattle.std.specs.Ordering.{is_lt}
use Rattle.ddc_model.specs.Entries.{ascends}
use Rattle.ddc_state.proofs.Walks.{and_when}
use Rattle.ddc_state.proofs.Ascending.{ascends_step, ascends_last}
use Rattle.ddc_state.proofs.ranges.is_ascending.Goals as goal

pub loop-i-preserved : goal.loop-i-preserved
loop-i-preserved g c =
    let i = c.loop-i.i in
    let keys = c.args.keys.now in
    let one : 1 ≤ i = c.loop-i.auto.i in
    let less : is_lt (g.K.Ord.cmp c.index-keys-i.result c.index-keys-i-in-loop-i.result) ≡ true = ap is_lt (sym c.cmp.ensures ∙ c.in-Less.is) in
    let back : (i + 1) - 1 ≡ i = omega arith in
    ap (λ (n : ℕ). ascends g.K.Ord.cmp (drop n keys)) back
    ∙ and_when (is_lt (g.K.Ord.cmp c.index-keys-i.result c.index-keys-i-in-loop-i.result)) (ascends g.K.Ord.cmp (drop i keys)) less
    ∙ sym (ascends_step g.K.Ord.cmp keys i c.index-keys-i.result c.index-keys-i-in-loop-i.result one c.loop-i-test.true c.index-keys-i.is c.index-keys-i-in-loop-i.is)
    ∙ c.loop-i.invariant

pub returns : goal.returns
returns g c = sym (ascends_last g.K.Ord.cmp c.args.keys.now c.loop-i.i c.loop-i.auto.i c.loop-i-test.false) ∙ c.loop-i.invariant
