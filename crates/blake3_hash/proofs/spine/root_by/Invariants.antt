use Rattle.std.proofs.Common.{◌≡◌, ℕ, List, ◌*◌, ◌^◌, ◌<◌, ◌≤◌, length}
use Rattle.tree_hash.specs.TreeHash.{chunk_value}
use Rattle.blake3_hash.specs.Spine.{Holds, pairs_at, spine_root}
use Rattle.blake3_hash.proofs.Levels.{JoinsTo}
use Rattle.blake3_hash.proofs.spine.root_by.Given as goal

abbrev pub invariant-joining : goal.invariant-joining
invariant-joining g l = record {
  within : l.level < 54;
  some : 1 ≤ l.above;
  bound : l.above * 2 ^ l.level ≤ l.count;
  joins : (xs : List (List ℕ)) (rest : List ℕ) → Holds l.levels l.count xs → l.last ≡ chunk_value rest l.count 0
      → (length (pairs_at l.level xs) ≡ l.above) × JoinsTo l.level xs l.value (spine_root xs rest);
}

abbrev pub decreases-joining : goal.decreases-joining
decreases-joining g l = l.above
