use Rattle.blake3_lanes.proofs.LaneLemmas.{unmoved}
use Rattle.blake3_lanes.proofs.vectors.kept.Goals as goal

pub returns : goal.returns
returns c = unmoved c.args.hidden.now.none c.args.hidden.now.nothing c.args.x c.fits-x.0 c.args.read c.fits-read.0
