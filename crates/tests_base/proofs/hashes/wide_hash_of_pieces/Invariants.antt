use Rattle.std.proofs.Common.{◌≡◌, ◌-◌, ◌≤◌, length}
use Rattle.blake3_lanes.specs.WideFed.{wide_length}
use Rattle.tests_base.proofs.hashes.wide_hash_of_pieces.Given as goal

abbrev pub invariant-pieces : goal.invariant-pieces
invariant-pieces l = (wide_length l.hasher ≡ l.start) × (l.start ≤ length l.bytes)

abbrev pub decreases-pieces : goal.decreases-pieces
decreases-pieces l = length l.bytes - l.start
