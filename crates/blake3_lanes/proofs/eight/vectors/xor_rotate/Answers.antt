use Rattle.blake3_lanes.proofs.EightLemmas.{shifts_rotate8}
use Rattle.blake3_lanes.proofs.eight.vectors.xor_rotate.Goals as goal

pub returns : goal.returns
returns c = shifts_rotate8 c.args.k c.requires.low c.requires.high c.args.a c.fits-a.0 c.args.b c.fits-b.0
