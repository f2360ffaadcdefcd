use Rattle.std.proofs.Common.{◌≡◌, ℕ, List, ◌+◌, ◌-◌, ◌*◌, ◌≤◌, ◌++◌, length, take, drop, ◌∙◌, sym, arith, add-zero, refl}
use Rattle.blake3_hash.specs.Spine.{Holds, leaves}
use Rattle.blake3_hash.proofs.Held.{leaves-append}
use Rattle.blake3_hash.proofs.Leaves.{length-leaves}
use Rattle.blake3_lanes.proofs.Groups.{group_after}
use Rattle.blake3_lanes.proofs.Subtrees.{joined_halves}
use Rattle.blake3_lanes.proofs.wide.push_groups.Invariants.{group_leaves}
use Rattle.blake3_lanes.proofs.wide.push_groups.Goals as goal
use Rattle.blake3_lanes.proofs.wide.push_groups.Goals.{then-k-gt0, else-k-gt0, then-groups-gt1, else-groups-gt1}

pub returns-then-groups-eq0-clause-pushed : goal.returns-then-groups-eq0-clause-pushed
returns-then-groups-eq0-clause-pushed c m len h =
    let e : c.args.spine.now.count + 8 * c.args.groups ≡ c.args.spine.now.count = omega arith in
    rw (e, leaves-append c.args.spine.now.count m c.args.bytes.now 0 (omega arith)) h

pub groups-init : goal.groups-init
groups-init c = record {
  count = omega arith;
  quarters = rw c.alone-waiting.ensures (c.quarters8.ensures ∙ rw (c.group_values-first.ensures, c.requires.number) refl);
  halves = λ one. absurd (omega arith);
  pushed = λ m len h. rw (add-zero, leaves-append c.args.spine.now.count m c.args.bytes.now 0 (omega arith)) h;
}

-- the group before group k is pushed
before_pushed : (n k : ℕ) (m b : List ℕ) (levels : List (List ℕ)) (count : ℕ) → 1024 * n ≡ length m → 1 ≤ k
    → Holds levels count (leaves (n + 8 * (k - 1)) (m ++ b) 0 ++ group_leaves n b (k - 1)) → Holds levels count (leaves (n + 8 * k) (m ++ b) 0)
before_pushed n k m b levels count len some h =
    let e : n + 8 * k ≡ n + 8 * (k - 1 + 1) = omega arith in
    rw (e, group_after n (k - 1) m b (group_leaves n b (k - 1)) len refl) h

pub groups-preserved : goal.groups-preserved
groups-preserved c =
    let k : ℕ = c.groups.k in
    let n : ℕ = c.args.spine.now.count in
    let b : List ℕ = c.args.bytes.now in
    let same : k + 1 - 1 ≡ k = omega arith in
    record {
      count = elim c.if-k-gt0.branch [
        | then-k-gt0 w ↦ rw w.spine-is (omega (arith, w.push_subtree_by.ensures.count, c.groups.invariant.count))
        | else-k-gt0 w ↦ rw w.spine-is (omega (arith, c.groups.invariant.count))
      ];
      quarters = c.join_with-joined.ensures.quarters ∙ rw (c.group_values-values.ensures, c.requires.number) refl;
      halves = λ one. rw same (c.join_with-joined.ensures.halves ∙ c.groups.invariant.quarters);
      pushed = λ m len h.
          rw same (elim c.if-k-gt0.branch [
            | then-k-gt0 w ↦
                let some : 1 ≤ k = omega arith in
                rw w.spine-is
                (before_pushed n k m b _ _ len some
                (w.push_subtree_by.ensures.pushed (leaves (n + 8 * (k - 1)) (m ++ b) 0) (group_leaves n b (k - 1)) (c.groups.invariant.pushed m len h)
                (length-leaves 8 (take 8192 (drop (8192 * (k - 1)) b)) (n + 8 * (k - 1)))
                (sym (c.join_with-joined.ensures.whole ∙ c.groups.invariant.halves some))))
            | else-k-gt0 w ↦
                let none : n + 8 * k ≡ n + 8 * (k - 1) = omega arith in
                rw (w.spine-is, none) (c.groups.invariant.pushed m len h)
          ]);
    }

pub returns-clause-pushed : goal.returns-clause-pushed
returns-clause-pushed c m len h =
    let k : ℕ = c.groups.k in
    let n : ℕ = c.args.spine.now.count in
    let b : List ℕ = c.args.bytes.now in
    let all : n + 8 * c.args.groups ≡ n + 8 * (k + 1) = omega arith in
    let held : Holds c.if-groups-gt1.spine.levels c.if-groups-gt1.spine.count (leaves (n + 8 * k) (m ++ b) 0) =
    elim c.if-groups-gt1.branch [
      | then-groups-gt1 w ↦
          let some : 1 ≤ k = omega arith in
          rw w.spine-is
          (before_pushed n k m b _ _ len some
          (w.push_subtree_by-then-groups-gt1.ensures.pushed (leaves (n + 8 * (k - 1)) (m ++ b) 0) (group_leaves n b (k - 1)) (c.groups.invariant.pushed m len h)
          (length-leaves 8 (take 8192 (drop (8192 * (k - 1)) b)) (n + 8 * (k - 1)))
          (sym (c.join_waiting-last.ensures.whole ∙ c.groups.invariant.halves some))))
      | else-groups-gt1 w ↦
          let none : n + 8 * k ≡ n + 8 * (k - 1) = omega arith in
          rw (w.spine-is, none) (c.groups.invariant.pushed m len h)
    ] in
    rw (all, group_after n k m b (group_leaves n b k) len refl)
    (c.push_subtree_by-2.ensures.pushed (leaves (n + 8 * k) (m ++ b) 0) (group_leaves n b k) held
    (length-leaves 8 (take 8192 (drop (8192 * k) b)) (n + 8 * k))
    (sym (c.parent-whole.ensures ∙ sym (joined_halves c.join_waiting-last.result.halves (omega arith)) ∙ c.join_waiting-last.ensures.halves ∙ c.groups.invariant.quarters)))
