use Rattle.std.proofs.Common.{refl, ◌∙◌}
use Rattle.tree_hash.specs.TreeHash.{parent_value}
use Rattle.blake3_lanes.proofs.parent.HiddenParents.parent.Goals as goal

pub returns : goal.returns
unfolding parent_value
returns c = c.words.ensures ∙ c.compress_message.ensures ∙ rw (c.start_value.ensures, c.message-m.ensures) refl
