use Rattle.std.proofs.Common.{◌≡◌, ◌<◌, ℕ, List, [], ◌∷◌, slice_index_or, ap, arith, refl, sym, ◌∙◌}
use Rattle.tree_hash.specs.TreeHash.{eight}
use Rattle.blake3_lanes.proofs.EightLemmas.{below_eight}
use Rattle.blake3_lanes.proofs.LaneLemmas.{lane_eight}
use Rattle.blake3_lanes.proofs.eight.parents.columns.Goals as goal

pub returns : goal.returns
returns c j h =
    let v : ℕ → List ℕ = λ k. slice_index_or c.args.values.now k [] in
    let same : (k : ℕ) → k < 8 → slice_index_or (v 0 ∷ v 1 ∷ v 2 ∷ v 3 ∷ v 4 ∷ v 5 ∷ v 6 ∷ v 7 ∷ []) k [] ≡ v k =
    below_eight _ refl refl refl refl refl refl refl refl in
    sym (lane_eight j c.transpose.result (omega arith))
    ∙ rw (
      c.transpose.ensures j h 0 (omega arith),
      c.transpose.ensures j h 1 (omega arith),
      c.transpose.ensures j h 2 (omega arith),
      c.transpose.ensures j h 3 (omega arith),
      c.transpose.ensures j h 4 (omega arith),
      c.transpose.ensures j h 5 (omega arith),
      c.transpose.ensures j h 6 (omega arith),
      c.transpose.ensures j h 7 (omega arith),
    ) (ap (λ (r : List ℕ). eight r) (same j h))
