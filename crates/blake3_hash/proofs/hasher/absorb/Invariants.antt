use Rattle.std.proofs.Common.{◌≡◌, ℕ, List, ◌+◌, ◌*◌, ◌++◌, length}
use Rattle.blake3_hash.specs.Spine.{Holds, leaves}
use Rattle.blake3_hash.proofs.hasher.absorb.Given as goal

abbrev pub invariant-loop-k : goal.invariant-loop-k
invariant-loop-k l = record {
  count : l.spine.count ≡ l.initial.spine.count + l.k;
  holds : (m : List ℕ) → 1024 * l.initial.spine.count ≡ length m → Holds l.initial.spine.levels l.initial.spine.count (leaves l.initial.spine.count m 0)
      → Holds l.spine.levels l.spine.count (leaves (l.initial.spine.count + l.k) (m ++ l.bytes) 0);
}
