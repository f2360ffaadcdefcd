use Rattle.blake3_lanes.proofs.LaneLemmas.{below_four}
use Rattle.blake3_lanes.proofs.kernel.rows.Goals as goal

pub returns : goal.returns
returns c = below_four _ c.row.ensures c.row-2.ensures c.row-3.ensures c.row-4.ensures
