use Rattle.blake3_lanes.proofs.Turned.{by_three}
use Rattle.blake3_lanes.proofs.block.from_fourth.Goals as goal

pub returns : goal.returns
returns c = by_three c.args.x c.fits-x.0
