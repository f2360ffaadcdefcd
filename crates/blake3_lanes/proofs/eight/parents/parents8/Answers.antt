use Rattle.std.proofs.Common.{refl}
use Rattle.tree_hash.specs.TreeHash.{parent_value}
use Rattle.blake3_lanes.proofs.eight.parents.parents8.Goals as goal

pub returns : goal.returns
unfolding parent_value
returns c j h =
    rw (c.rows.ensures j h, c.compress.ensures j 0 h (c.splat.ensures j h) (c.splat-2.ensures j h), c.start_values.ensures j h, c.messages-m.ensures j h) refl
