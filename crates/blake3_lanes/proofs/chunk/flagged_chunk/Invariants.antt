use Rattle.std.proofs.Common.{◌≡◌}
use Rattle.tree_hash.specs.TreeHash.{chunk_after}
use Rattle.blake3_lanes.specs.inside.Rows.{two_rows}
use Rattle.blake3_lanes.proofs.chunk.flagged_chunk.Given as goal

abbrev pub invariant-each_block : goal.invariant-each_block
invariant-each_block l = two_rows l.h ≡ chunk_after l.bytes l.number l.k
