use Rattle.std.proofs.Common.{◌≡◌}
use Rattle.tree_hash.specs.TreeHash.{chunk_after}
use Rattle.tree_hash.proofs.block.flagged_chunk.Given as goal

abbrev pub invariant-loop-k : goal.invariant-loop-k
invariant-loop-k l = l.h ≡ chunk_after l.bytes l.number l.k
