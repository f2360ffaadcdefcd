use Rattle.std.proofs.Common.{◌≡◌, ◌-◌, ◌≤◌, length}
use Rattle.blake3_hash.specs.Fed.{fed_length}
use Rattle.tests_base.proofs.hashes.hash_of_pieces.Given as goal

abbrev pub invariant-pieces : goal.invariant-pieces
invariant-pieces l = (fed_length l.hasher ≡ l.start) × (l.start ≤ length l.bytes)

abbrev pub decreases-pieces : goal.decreases-pieces
decreases-pieces l = length l.bytes - l.start
