use Rattle.blake3_lanes.proofs.LaneLemmas.{lane_eight}
use Rattle.blake3_lanes.proofs.eight.kernel.row.Goals as goal

pub returns : goal.returns
returns c = lane_eight c.args.j c.args.h.now c.told-h
