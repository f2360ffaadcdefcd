use Rattle.std.proofs.Common.{refl}
use Rattle.tree_hash.specs.TreeHash.{round}
use Rattle.blake3_lanes.specs.inside.Lanes.{mix_columns, mix_diagonals}
use Rattle.blake3_lanes.proofs.eight.kernel.round.Goals as goal

pub returns : goal.returns
unfolding round mix_columns mix_diagonals
returns c j h = rw (c.mix_diagonals.ensures j h, c.mix_columns.ensures j h) refl
