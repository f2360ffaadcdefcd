use Rattle.std.proofs.Common.{length}
use Rattle.tree_hash.proofs.tree.+value.Given as goal

abbrev pub decreases-value : goal.decreases-value
decreases-value l = length l.bytes.now
