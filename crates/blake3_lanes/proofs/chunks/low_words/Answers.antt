use Rattle.std.proofs.Common.{ℕ, ◌%◌, ◌^◌, ap, arith, ◌∙◌}
use Rattle.blake3_lanes.proofs.LaneLemmas.{below_four}
use Rattle.blake3_lanes.proofs.chunks.low_words.Goals as goal

pub returns : goal.returns
returns c =
    let word : ℕ → ℕ = λ x. x % 2 ^ 32 in
    below_four _ (c.low_word.ensures ∙ ap word (omega arith)) c.low_word-2.ensures c.low_word-3.ensures c.low_word-4.ensures
