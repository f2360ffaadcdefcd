use Rattle.std.proofs.Common.{◌≡◌, ℕ, List, ◌+◌, ◌-◌, ◌*◌, ◌≤◌, ◌++◌, length, take, drop}
use Rattle.blake3_hash.specs.Spine.{Holds, joined, leaves}
use Rattle.blake3_lanes.proofs.wide.push_groups.Given as goal

-- the leaves of group k of b, on a spine of n
abbrev pub group_leaves : ℕ → List ℕ → ℕ → List (List ℕ)
group_leaves n b k = leaves 8 (take 8192 (drop (8192 * k) b)) (n + 8 * k)

abbrev pub invariant-groups : goal.invariant-groups
invariant-groups l = record {
  count : l.spine.count ≡ l.initial.spine.count + 8 * (l.k - 1);
  quarters : joined 2 l.waiting.quarters 0 ≡ joined 3 (group_leaves l.initial.spine.count l.bytes l.k) 0;
  halves : 1 ≤ l.k → joined 1 l.waiting.halves 0 ≡ joined 3 (group_leaves l.initial.spine.count l.bytes (l.k - 1)) 0;
  pushed : (m : List ℕ) → 1024 * l.initial.spine.count ≡ length m → Holds l.initial.spine.levels l.initial.spine.count (leaves l.initial.spine.count m 0)
      → Holds l.spine.levels l.spine.count (leaves (l.initial.spine.count + 8 * (l.k - 1)) (m ++ l.bytes) 0);
}
