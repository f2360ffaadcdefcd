use Rattle.blake3_lanes.proofs.EightLemmas.{loaded8}
use Rattle.blake3_lanes.proofs.eight.vectors.load.Goals as goal

pub returns : goal.returns
returns c = loaded8 c.args.input.now c.args.at c.requires c.type_inv.input
