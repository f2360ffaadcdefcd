use Rattle.blake3_lanes.proofs.WordBytes.{rotated_two}
use Rattle.blake3_lanes.proofs.vectors.rotate_by_two.Goals as goal

pub returns : goal.returns
returns c = rotated_two c.args.x c.args.hidden.now.two c.args.hidden.now.by_two c.fits-x.0 c.fits-x.1
