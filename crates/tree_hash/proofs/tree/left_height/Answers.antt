use Rattle.std.proofs.Common.{arith}
use Rattle.tree_hash.proofs.Cuts.{height_below}
use Rattle.tree_hash.proofs.tree.left_height.Goals as goal

pub overflow_add-height : goal.overflow_add-height
overflow_add-height c = omega (arith, height_below c.doubling.height (omega arith))

pub returns-clause-small : goal.returns-clause-small
returns-clause-small c = height_below c.doubling.height (omega arith)
