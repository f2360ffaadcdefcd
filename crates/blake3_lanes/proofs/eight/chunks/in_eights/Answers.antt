use Rattle.blake3_lanes.proofs.Groups.{rows_leaves}
use Rattle.std.proofs.Common.{arith}
use Rattle.blake3_lanes.proofs.eight.chunks.in_eights.Goals as goal

pub returns : goal.returns
returns c = rows_leaves 8 c.lanes8.result c.args.input.now c.args.first (omega arith) c.lanes8.ensures
