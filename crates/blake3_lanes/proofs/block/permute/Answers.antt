use Rattle.blake3_lanes.proofs.Turned.{permuted}
use Rattle.blake3_lanes.proofs.block.permute.Goals as goal

pub returns : goal.returns
returns c = permuted c.args.a c.fits-a.0 c.args.b c.fits-b.0 c.args.c c.fits-c.0 c.args.d c.fits-d.0
