use Rattle.blake3_lanes.proofs.EightLemmas.{below_eight}
use Rattle.blake3_lanes.proofs.eight.kernel.rows.Goals as goal

pub returns : goal.returns
returns c = below_eight _ c.row.ensures c.row-2.ensures c.row-3.ensures c.row-4.ensures c.row-5.ensures c.row-6.ensures c.row-7.ensures c.row-8.ensures
