use Rattle.std.proofs.Common.{refl}
use Rattle.blake3_lanes.proofs.EightLemmas.{below_eight}
use Rattle.blake3_lanes.proofs.eight.vectors.splat.Goals as goal

pub returns : goal.returns
returns c = below_eight _ refl refl refl refl refl refl refl refl
