use Rattle.std.proofs.Common.{arith, ◌∙◌}
use Rattle.std.proofs.lemmas.List.{length-take-le, take_rest}
use Rattle.blake3_lanes.proofs.LaneLemmas.{rows_beside}
use Rattle.blake3_lanes.proofs.Groups.{eight_leaves}
use Rattle.blake3_lanes.proofs.chunks.in_fours.Goals as goal

pub slice_bounds-chunks4-end : goal.slice_bounds-chunks4-end
slice_bounds-chunks4-end c = omega (arith, length-take-le 4096 c.args.input.now (omega arith))

pub chunks4-front-requires-clause-len : goal.chunks4-front-requires-clause-len
chunks4-front-requires-clause-len c = omega (arith, length-take-le 4096 c.args.input.now (omega arith))

pub returns : goal.returns
returns c =
    rows_beside c.chunks4-front.result c.chunks4-back.result (omega arith) (omega arith)
    ∙ eight_leaves c.chunks4-front.result c.chunks4-back.result c.args.input.now c.args.first (omega arith) (omega arith) c.chunks4-front.ensures
    (rw take_rest at c.chunks4-back.ensures)
