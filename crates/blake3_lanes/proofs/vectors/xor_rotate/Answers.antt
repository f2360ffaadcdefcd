use Rattle.blake3_lanes.proofs.LaneLemmas.{shifts_rotate}
use Rattle.blake3_lanes.proofs.vectors.xor_rotate.Goals as goal

pub returns : goal.returns
returns c = shifts_rotate c.args.k c.requires.low c.requires.high c.args.a c.fits-a.0 c.args.b c.fits-b.0
