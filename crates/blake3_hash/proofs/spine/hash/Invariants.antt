use Rattle.std.proofs.Common.{◌≡◌}
use Rattle.blake3_hash.specs.Spine.{Holds, leaves}
use Rattle.blake3_hash.proofs.spine.hash.Given as goal

abbrev pub invariant-loop-k : goal.invariant-loop-k
invariant-loop-k l = (l.spine.count ≡ l.k) × Holds l.spine.levels l.spine.count (leaves l.k l.bytes 0)
