use Rattle.blake3_lanes.proofs.Turned.{by_one}
use Rattle.blake3_lanes.proofs.block.from_second.Goals as goal

pub returns : goal.returns
returns c = by_one c.args.x c.fits-x.0
