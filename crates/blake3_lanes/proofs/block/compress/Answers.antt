use Rattle.std.proofs.Common.{refl, ◌∙◌}
use Rattle.blake3_lanes.proofs.block.compress.Goals as goal

pub returns : goal.returns
returns c = c.compress_message.ensures ∙ rw c.message.ensures refl
