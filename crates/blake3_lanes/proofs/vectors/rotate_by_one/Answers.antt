use Rattle.blake3_lanes.proofs.WordBytes.{rotated_one}
use Rattle.blake3_lanes.proofs.vectors.rotate_by_one.Goals as goal

pub returns : goal.returns
returns c = rotated_one c.args.x c.args.hidden.now.one c.args.hidden.now.by_one c.fits-x.0 c.fits-x.1
