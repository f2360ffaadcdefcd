use Rattle.std.proofs.Common.{List, ℕ, slice_index, arith, ◌∙◌}
use Rattle.std.proofs.lemmas.List.{length-map}
use Rattle.blake3_lanes.specs.inside.Lanes.{lane}
use Rattle.blake3_lanes.proofs.LaneLemmas.{lane_get}
use Rattle.blake3_lanes.proofs.Halves.{columns_together}
use Rattle.blake3_lanes.proofs.kernel.mix_columns.Goals as goal

pub returns : goal.returns
returns c j h =
    rw (c.half_mix-8.ensures j h, c.half_mix-7.ensures j h, c.half_mix-6.ensures j h, c.half_mix-5.ensures j h, c.half_mix-4.ensures j h, c.half_mix-3.ensures j h, c.half_mix-2.ensures j h, c.half_mix.ensures j h, lane_get j c.args.m.now 0, lane_get j c.args.m.now 1, lane_get j c.args.m.now 2, lane_get j c.args.m.now 3, lane_get j c.args.m.now 4, lane_get j c.args.m.now 5, lane_get j c.args.m.now 6, lane_get j c.args.m.now 7)
    (columns_together (lane j c.args.m.now) (lane j c.args.v.now) (length-map c.args.v.now (λ (x : List ℕ). slice_index x j) ∙ omega arith))
