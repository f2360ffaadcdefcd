use Rattle.std.proofs.Common.{arith, sym}
use Rattle.blake3_lanes.proofs.LaneLemmas.{below_four}
use Rattle.blake3_lanes.proofs.Rows.{lane_four}
use Rattle.blake3_lanes.proofs.block.turned_back.Goals as goal

pub returns : goal.returns
returns c =
    below_four _
    (rw (c.from_second.ensures 3 (omega arith), c.from_fourth.ensures 1 (omega arith), c.from_third.ensures 2 (omega arith)) (sym (lane_four 0 c.args.v.now c.told-v)))
    (rw (c.from_second.ensures 0 (omega arith), c.from_fourth.ensures 2 (omega arith), c.from_third.ensures 3 (omega arith)) (sym (lane_four 1 c.args.v.now c.told-v)))
    (rw (c.from_second.ensures 1 (omega arith), c.from_fourth.ensures 3 (omega arith), c.from_third.ensures 0 (omega arith)) (sym (lane_four 2 c.args.v.now c.told-v)))
    (rw (c.from_second.ensures 2 (omega arith), c.from_fourth.ensures 0 (omega arith), c.from_third.ensures 1 (omega arith)) (sym (lane_four 3 c.args.v.now c.told-v)))
