use Rattle.std.proofs.Common.{ap, sym, ◌∙◌}
use Rattle.tree_hash.specs.TreeHash.{blake3, words_bytes}
use Rattle.tree_hash.proofs.Cuts.{value_chunk}
use Rattle.blake3_lanes.proofs.wide.hash_of_chunk.Goals as goal

pub returns : goal.returns
unfolding blake3
returns c = c.bytes_of.ensures ∙ ap words_bytes (c.flagged_chunk.ensures ∙ sym (value_chunk c.args.bytes.now 0 8 c.requires))
