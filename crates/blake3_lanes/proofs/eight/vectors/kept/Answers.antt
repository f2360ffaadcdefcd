use Rattle.blake3_lanes.proofs.EightLemmas.{unmoved8}
use Rattle.blake3_lanes.proofs.eight.vectors.kept.Goals as goal

pub returns : goal.returns
returns c = unmoved8 c.args.zeros.now.none c.args.zeros.now.nothing c.args.x c.fits-x.0 c.args.read c.fits-read.0
