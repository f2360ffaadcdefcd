use Rattle.std.proofs.Common.{List, ℕ, ap, arith, sym, ◌∙◌}
use Rattle.blake3_hash.specs.Spine.{joined}
use Rattle.blake3_lanes.proofs.Subtrees.{joined_halves}
use Rattle.blake3_lanes.proofs.parents.subtree8.Goals as goal

pub returns : goal.returns
returns c =
    c.parent.ensures
    ∙ sym (joined_halves c.join_waiting.result.halves (omega arith))
    ∙ c.join_waiting.ensures.halves
    ∙ ap (λ (q : List (List ℕ)). joined 2 q 0) c.alone.ensures
    ∙ c.quarters8-quarters.ensures
