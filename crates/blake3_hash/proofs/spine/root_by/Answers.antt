use Rattle.std.proofs.Common.{◌≡◌, ℕ, ◌+◌, ◌*◌, ◌/◌, ◌%◌, ◌^◌, ◌≤◌, List, length, ap, ◌∙◌, arith}
use Rattle.tree_hash.specs.TreeHash.{chunk_value, parent_value}
use Rattle.blake3_hash.specs.Spine.{pairs_at, spine_root}
use Rattle.blake3_hash.proofs.Levels.{Holds_length, Holds_level, JoinsTo_done, JoinsTo_even, JoinsTo_first, JoinsTo_odd, halved_le, length-pairs_at, level_below, pairs_at_first}
use Rattle.blake3_hash.proofs.spine.root_by.Goals as goal
use Rattle.blake3_hash.proofs.spine.root_by.Goals.{then-above-eq1, else-above-eq1}

pub joining-init : goal.joining-init
joining-init g c = record {
  within = omega arith;
  some = omega arith;
  bound = omega arith;
  joins = λ xs rest h e.
      let len = Holds_length c.args.levels.now c.args.count xs h in
      let value : c.args.last.now ≡ chunk_value rest (length xs) 0 = rw len e in
      (ap length (pairs_at_first xs) ∙ len, rw value (JoinsTo_first xs rest (omega (arith, len))));
}

pub joining-preserved : goal.joining-preserved
joining-preserved g c =
    let r : ℕ = c.joining.above in
    let k : ℕ = c.joining.level in
    let bound : r / 2 * 2 ^ (k + 1) ≤ c.args.count = halved_le r k c.args.count c.joining.invariant.bound in
    let some : 1 ≤ r / 2 = omega arith in
    record {
      within = level_below (r / 2) (k + 1) c.args.count some bound (omega arith);
      some = some;
      bound = bound;
      joins = λ xs rest h e.
          let i = c.joining.invariant.joins xs rest h e in
          let len : length (pairs_at k xs) ≡ r = i.0 in (
            length-pairs_at k r xs len,
            elim c.if-above-eq1.branch [
              | then-above-eq1 w ↦
                  let odd : length (pairs_at k xs) % 2 ≡ 1 = rw len (omega arith) in
                  JoinsTo_odd k xs c.joining.value _ (spine_root xs rest) i.1 (omega arith) odd
                  (w.value-is ∙ w.parent-value.ensures
                  ∙ ap (λ (x : List ℕ). parent_value x c.joining.value 0)
                  (Holds_level c.args.levels.now c.args.count xs k h c.joining.invariant.within odd))
              | else-above-eq1 w ↦
                  let even : length (pairs_at k xs) % 2 ≡ 0 = rw len (omega arith) in
                  rw w.value-is (JoinsTo_even k xs c.joining.value (spine_root xs rest) i.1 (omega arith) even)
            ],
          );
    }

pub returns : goal.returns
returns g c = λ xs rest h e.
    let k : ℕ = c.joining.level in
    let i = c.joining.invariant.joins xs rest h e in
    let one : length (pairs_at k xs) ≡ 1 = omega (arith, i.0) in
    let odd : length (pairs_at k xs) % 2 ≡ 1 = omega arith in
    c.parent.ensures
    ∙ ap (λ (x : List ℕ). parent_value x c.joining.value 8)
    (Holds_level c.args.levels.now c.args.count xs k h c.joining.invariant.within odd)
    ∙ JoinsTo_done k xs c.joining.value (spine_root xs rest) i.1 one
