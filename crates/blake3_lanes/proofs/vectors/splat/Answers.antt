use Rattle.std.proofs.Common.{refl}
use Rattle.blake3_lanes.proofs.LaneLemmas.{below_four}
use Rattle.blake3_lanes.proofs.vectors.splat.Goals as goal

pub returns : goal.returns
returns c = below_four _ refl refl refl refl
