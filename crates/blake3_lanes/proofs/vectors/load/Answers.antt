use Rattle.blake3_lanes.proofs.WordBytes.{loaded}
use Rattle.blake3_lanes.proofs.vectors.load.Goals as goal

pub returns : goal.returns
returns c = loaded c.args.input.now c.args.at c.requires c.type_inv.input
