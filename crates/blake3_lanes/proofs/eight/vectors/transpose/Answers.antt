use Rattle.blake3_lanes.proofs.EightLemmas.{turned_lane8}
use Rattle.blake3_lanes.proofs.eight.vectors.transpose.Goals as goal

pub returns : goal.returns
returns c =
    turned_lane8 c.args.a c.fits-a.0 c.args.b c.fits-b.0 c.args.c c.fits-c.0 c.args.d c.fits-d.0
    c.args.e c.fits-e.0 c.args.f c.fits-f.0 c.args.g c.fits-g.0 c.args.h c.fits-h.0
