use Rattle.std.proofs.Common.{◌≡◌, ℕ, List, ◌+◌, ◌*◌, ◌^◌, ◌<◌, length}
use Rattle.blake3_hash.specs.Spine.{Holds, joined, pairs_at}
use Rattle.blake3_hash.proofs.Levels.{Carries}
use Rattle.blake3_hash.proofs.spine.Spine.push_subtree_by.Given as goal

abbrev pub invariant-levels : goal.invariant-levels
invariant-levels g l = record {
  within : l.level < 54;
  bound : (l.rest + 1) * 2 ^ l.level ≡ l.self-inside.count + 2 ^ l.height;
  carries : (xs ys : List (List ℕ)) → Holds l.self-inside.levels l.self-inside.count xs → length ys ≡ 2 ^ l.height → joined l.height ys 0 ≡ l.value
      → (length (pairs_at l.level xs) ≡ l.rest) × Carries l.level xs ys l.carry;
}

abbrev pub decreases-levels : goal.decreases-levels
decreases-levels g l = l.rest
