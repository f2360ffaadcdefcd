use Rattle.std.proofs.Common.{refl}
use Rattle.tree_hash.specs.TreeHash.{round}
use Rattle.blake3_lanes.specs.inside.Lanes.{mix_columns, mix_diagonals}
use Rattle.blake3_lanes.proofs.Rows.{columns_mixed, diagonals_mixed}
use Rattle.blake3_lanes.proofs.block.round.Goals as goal

pub returns : goal.returns
unfolding round mix_columns mix_diagonals
returns c =
    let columns = columns_mixed c.args.v.now c.mix.new.v c.args.m.now c.told-v c.mix.ensures in
    let diagonals = diagonals_mixed c.mix.new.v c.turned-diagonals.result c.mix-2.new.v c.turned_back.result c.args.m.now c.turned-diagonals.ensures c.mix-2.ensures c.turned_back.ensures in
    rw (diagonals, columns) refl
