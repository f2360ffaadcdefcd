use Rattle.std.proofs.Common.{arith}
use Rattle.std.proofs.lemmas.List.{length-take-le}
use Rattle.blake3_lanes.proofs.chunks.chunks8_before.Goals as goal

pub in_fours-requires-clause-next : goal.in_fours-requires-clause-next
in_fours-requires-clause-next c = omega (arith, length-take-le 4096 c.args.next.now (omega arith))

pub slice_bounds-in_fours-end : goal.slice_bounds-in_fours-end
slice_bounds-in_fours-end c = omega (arith, length-take-le 4096 c.args.next.now (omega arith))
