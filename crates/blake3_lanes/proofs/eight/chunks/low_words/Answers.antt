use Rattle.std.proofs.Common.{ℕ, ◌%◌, ◌^◌, ap, arith, ◌∙◌}
use Rattle.blake3_lanes.proofs.EightLemmas.{below_eight}
use Rattle.blake3_lanes.proofs.eight.chunks.low_words.Goals as goal

pub returns : goal.returns
returns c =
    let word : ℕ → ℕ = λ x. x % 2 ^ 32 in
    below_eight _ (c.low_word.ensures ∙ ap word (omega arith)) c.low_word-2.ensures c.low_word-3.ensures c.low_word-4.ensures c.low_word-5.ensures c.low_word-6.ensures c.low_word-7.ensures c.low_word-8.ensures
