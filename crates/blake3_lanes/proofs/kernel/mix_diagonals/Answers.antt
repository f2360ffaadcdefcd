use Rattle.std.proofs.Common.{List, ℕ, slice_index, arith, ◌∙◌}
use Rattle.std.proofs.lemmas.List.{length-map}
use Rattle.blake3_lanes.specs.inside.Lanes.{lane}
use Rattle.blake3_lanes.proofs.LaneLemmas.{lane_get}
use Rattle.blake3_lanes.proofs.Halves.{diagonals_together}
use Rattle.blake3_lanes.proofs.kernel.mix_diagonals.Goals as goal

pub returns : goal.returns
returns c j h =
    rw (c.half_mix-8.ensures j h, c.half_mix-7.ensures j h, c.half_mix-6.ensures j h, c.half_mix-5.ensures j h, c.half_mix-4.ensures j h, c.half_mix-3.ensures j h, c.half_mix-2.ensures j h, c.half_mix.ensures j h, lane_get j c.args.m.now 8, lane_get j c.args.m.now 9, lane_get j c.args.m.now 10, lane_get j c.args.m.now 11, lane_get j c.args.m.now 12, lane_get j c.args.m.now 13, lane_get j c.args.m.now 14, lane_get j c.args.m.now 15)
    (diagonals_together (lane j c.args.m.now) (lane j c.args.v.now) (length-map c.args.v.now (λ (x : List ℕ). slice_index x j) ∙ omega arith))
