use Rattle.std.proofs.Common.{◌≡◌, ℕ, List, ◌+◌, ◌++◌, take}
use Rattle.blake3_hash.specs.Spine.{Holds}
use Rattle.blake3_lanes.proofs.wide.push_front.Given as goal

abbrev pub invariant-front : goal.invariant-front
invariant-front l = record {
  count : l.spine.count ≡ l.initial.spine.count + l.k;
  pushed : (xs : List (List ℕ)) → Holds l.initial.spine.levels l.initial.spine.count xs → Holds l.spine.levels l.spine.count (xs ++ take l.k l.values);
}
