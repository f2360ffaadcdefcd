use Rattle.std.proofs.Common.{◌≡◌, ◌*◌, ◌^◌, ◌<◌, ◌-◌}
use Rattle.tree_hash.proofs.tree.left_height.Given as goal

abbrev pub invariant-doubling : goal.invariant-doubling
invariant-doubling l = (l.left ≡ 1024 * 2 ^ l.height) × (l.left < l.len)

abbrev pub decreases-doubling : goal.decreases-doubling
decreases-doubling l = l.len - l.left
