use Rattle.std.proofs.Common.{◌≡◌, ℕ, ◌+◌, ◌*◌, ◌/◌, ◌%◌, ◌^◌, List, length, ap, ◌∙◌, arith}
use Rattle.std.proofs.lemmas.Nat.{div-add-mod'}
use Rattle.tree_hash.specs.TreeHash.{parent_value}
use Rattle.blake3_hash.specs.Spine.{Holds, Levels, pairs_at}
use Rattle.blake3_hash.proofs.Levels.{Carries_next, Carries_subtree, Holds_length, Holds_level, Holds_push, halved, length-pairs_at, length-pairs_at_exact, level_below}
use Rattle.blake3_hash.proofs.spine.Spine.push_subtree_by.Goals as goal

pub levels-init : goal.levels-init
levels-init g c =
    let count : ℕ = c.self.inside.count in
    let width : ℕ = 2 ^ c.args.height in
    let same : count ≡ c.args.self.now.count = ap (λ (v : Levels). v.count) c.self.view_is in
    let none : count % width ≡ 0 = rw same c.requires.aligned in
    let exact : count ≡ count / width * width = omega (arith, div-add-mod' count width) in
    record {
      within = c.requires.height;
      bound = omega (arith, exact);
      carries = λ xs ys h long e.
          let len : length xs ≡ count / width * width = Holds_length _ _ xs h ∙ exact in (
            length-pairs_at_exact c.args.height (count / width) xs len,
            Carries_subtree c.args.height (count / width) xs ys c.args.value.now len long e,
          );
    }

pub levels-preserved : goal.levels-preserved
levels-preserved g c =
    let r : ℕ = c.levels.rest in
    let k : ℕ = c.levels.level in
    let n : ℕ = c.self.inside.count + 2 ^ c.args.height in
    let odd : r % 2 ≡ 1 = omega arith in
    let bound : (r / 2 + 1) * 2 ^ (k + 1) ≡ n = halved r k n odd c.levels.invariant.bound in
    record {
      within = level_below (r / 2 + 1) (k + 1) n (omega arith) (omega arith) (omega (arith, c.requires.room, ap (λ (v : Levels). v.count) c.self.view_is));
      bound = bound;
      carries = λ xs ys h long e.
          let i = c.levels.invariant.carries xs ys h long e in
          let odd_length : length (pairs_at k xs) % 2 ≡ 1 = rw i.0 odd in (
            length-pairs_at k r xs i.0,
            Carries_next k xs ys c.levels.carry _ i.1 odd_length
                (c.parent-carry.ensures
                ∙ ap (λ (x : List ℕ). parent_value x c.levels.carry 0)
                (Holds_level c.self.inside.levels c.self.inside.count xs k h c.levels.invariant.within odd_length)),
          );
    }

pub returns-clause-pushed : goal.returns-clause-pushed
returns-clause-pushed g c = λ xs ys pushed long e.
    let k : ℕ = c.levels.level in
    let h : Holds c.self.inside.levels c.self.inside.count xs = rw (← c.self.view_is) at pushed in
    let i = c.levels.invariant.carries xs ys h long e in
    let even : c.levels.rest % 2 ≡ 0 = omega arith in
    let n : c.self.inside.count + 1 * 2 ^ c.args.height % 2 ^ 64 ≡ c.self.inside.count + length ys = omega (arith, c.requires.room, long) in
    Holds_push c.self.inside.levels c.self.inside.count xs ys c.levels.carry k _ c.levels.invariant.within n h i.1 (rw i.0 even)
