use Rattle.std.proofs.Common.{◌≡◌, ℕ, ◌<◌, ◌+◌, ◌*◌, take, drop}
use Rattle.tree_hash.specs.TreeHash.{chunk_after}
use Rattle.blake3_lanes.specs.inside.Lanes.{lane}
use Rattle.blake3_lanes.proofs.eight.chunks.lanes8.Given as goal

abbrev pub invariant-each_block : goal.invariant-each_block
invariant-each_block l = (j : ℕ) → j < 8 → lane j l.h ≡ chunk_after (take 1024 (drop (1024 * j) l.input)) (l.first + j) l.k
