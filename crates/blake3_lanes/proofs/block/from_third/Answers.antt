use Rattle.blake3_lanes.proofs.Turned.{by_two}
use Rattle.blake3_lanes.proofs.block.from_third.Goals as goal

pub returns : goal.returns
returns c = by_two c.args.x c.fits-x.0
