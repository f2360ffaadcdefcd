use Rattle.std.proofs.Common.{ℕ, arith, ap, ◌∙◌}
use Rattle.tree_hash.specs.TreeHash.{word_at}
use Rattle.blake3_lanes.proofs.EightLemmas.{below_eight}
use Rattle.blake3_lanes.proofs.eight.chunks.half.Goals as goal

pub returns : goal.returns
returns c =
    let at : ℕ → ℕ = λ n. word_at c.args.input.now n in
    below_eight _
    (λ i h. c.transpose.ensures 0 (omega arith) i h ∙ c.load.ensures i h ∙ ap at (omega arith))
    (λ i h. c.transpose.ensures 1 (omega arith) i h ∙ c.load-2.ensures i h ∙ ap at (omega arith))
    (λ i h. c.transpose.ensures 2 (omega arith) i h ∙ c.load-3.ensures i h ∙ ap at (omega arith))
    (λ i h. c.transpose.ensures 3 (omega arith) i h ∙ c.load-4.ensures i h ∙ ap at (omega arith))
    (λ i h. c.transpose.ensures 4 (omega arith) i h ∙ c.load-5.ensures i h ∙ ap at (omega arith))
    (λ i h. c.transpose.ensures 5 (omega arith) i h ∙ c.load-6.ensures i h ∙ ap at (omega arith))
    (λ i h. c.transpose.ensures 6 (omega arith) i h ∙ c.load-7.ensures i h ∙ ap at (omega arith))
    (λ i h. c.transpose.ensures 7 (omega arith) i h ∙ c.load-8.ensures i h ∙ ap at (omega arith))
