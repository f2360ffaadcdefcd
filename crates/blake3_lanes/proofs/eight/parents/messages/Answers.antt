use Rattle.std.proofs.Common.{arith}
use Rattle.blake3_lanes.proofs.LaneLemmas.{lanes_beside}
use Rattle.blake3_lanes.proofs.eight.parents.messages.Goals as goal

pub returns : goal.returns
returns c j h =
    lanes_beside j c.columns-a.result c.columns-b.result _ _ (omega arith) (omega arith) (c.columns-a.ensures j h) (c.columns-b.ensures j h)
