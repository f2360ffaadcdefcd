use Rattle.std.proofs.Common.{arith}
use Rattle.blake3_lanes.proofs.WordBytes.{turned_lane}
use Rattle.blake3_lanes.proofs.vectors.transpose.Goals as goal

pub returns-clause-first : goal.returns-clause-first
returns-clause-first c = turned_lane c.args.a c.fits-a.0 c.args.b c.fits-b.0 c.args.c c.fits-c.0 c.args.d c.fits-d.0 0 (omega arith)

pub returns-clause-second : goal.returns-clause-second
returns-clause-second c = turned_lane c.args.a c.fits-a.0 c.args.b c.fits-b.0 c.args.c c.fits-c.0 c.args.d c.fits-d.0 1 (omega arith)

pub returns-clause-third : goal.returns-clause-third
returns-clause-third c = turned_lane c.args.a c.fits-a.0 c.args.b c.fits-b.0 c.args.c c.fits-c.0 c.args.d c.fits-d.0 2 (omega arith)

pub returns-clause-fourth : goal.returns-clause-fourth
returns-clause-fourth c = turned_lane c.args.a c.fits-a.0 c.args.b c.fits-b.0 c.args.c c.fits-c.0 c.args.d c.fits-d.0 3 (omega arith)
