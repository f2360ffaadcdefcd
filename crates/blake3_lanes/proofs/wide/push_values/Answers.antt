use Rattle.std.proofs.Common.{arith, sym}
use Rattle.blake3_lanes.proofs.wide.push_values.Goals as goal

pub returns-clause-pushed : goal.returns-clause-pushed
returns-clause-pushed c = λ xs pushed. c.push_subtree_by.ensures.pushed xs c.args.values.now pushed (omega arith) (sym c.subtree8.ensures)
