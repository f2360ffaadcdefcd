use Rattle.tree_hash.proofs.Cuts.{value_chunk}
use Rattle.tree_hash.proofs.laws.one_chunk.Goals as goal

pub returns : goal.returns
returns c = value_chunk
