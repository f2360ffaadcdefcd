use Rattle.std.proofs.Common.{ℕ, arith, ap, ◌∙◌}
use Rattle.tree_hash.specs.TreeHash.{word_at}
use Rattle.blake3_lanes.proofs.LaneLemmas.{below_four}
use Rattle.blake3_lanes.proofs.chunks.quarter.Goals as goal

pub returns : goal.returns
returns c =
    let at : ℕ → ℕ = λ n. word_at c.args.input.now n in
    below_four _
    (λ i h. c.transpose.ensures.first i h ∙ c.load.ensures i h ∙ ap at (omega arith))
    (λ i h. c.transpose.ensures.second i h ∙ c.load-2.ensures i h ∙ ap at (omega arith))
    (λ i h. c.transpose.ensures.third i h ∙ c.load-3.ensures i h ∙ ap at (omega arith))
    (λ i h. c.transpose.ensures.fourth i h ∙ c.load-4.ensures i h ∙ ap at (omega arith))
