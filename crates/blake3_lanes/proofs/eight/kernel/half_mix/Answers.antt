use Rattle.std.proofs.Common.{ℕ, List, refl, slice_index, slice_set, bit_xor, w32}
use Rattle.std.specs.Int.{rotate_right}
use Rattle.tree_hash.specs.TreeHash.{add32, half_mix}
use Rattle.blake3_lanes.specs.inside.Lanes.{lane}
use Rattle.blake3_lanes.proofs.LaneLemmas.{lane_get, lane_set}
use Rattle.blake3_lanes.proofs.eight.kernel.half_mix.Goals as goal

pub returns : goal.returns
unfolding half_mix
returns c j h =
    let v : List (List ℕ) = c.args.v.now in
    let v1 : List (List ℕ) = slice_set v c.args.a c.add-2.result in
    let v2 : List (List ℕ) = slice_set v1 c.args.d c.xor_rotate.result in
    let v3 : List (List ℕ) = slice_set v2 c.args.c c.add-3.result in
    let e1 = lane_set j v c.args.a c.add-2.result (add32 (add32 (slice_index (lane j v) c.args.a) (slice_index (lane j v) c.args.b)) (slice_index c.args.x j))
    (rw (c.add-2.ensures j h, c.add.ensures j h, lane_get j v c.args.a, lane_get j v c.args.b) refl) in
    let e2 = lane_set j v1 c.args.d c.xor_rotate.result (rotate_right w32 (bit_xor (slice_index (lane j v1) c.args.d) (slice_index (lane j v1) c.args.a)) c.args.r)
    (rw (c.xor_rotate.ensures j h, lane_get j v1 c.args.d, lane_get j v1 c.args.a) refl) in
    let e3 = lane_set j v2 c.args.c c.add-3.result (add32 (slice_index (lane j v2) c.args.c) (slice_index (lane j v2) c.args.d))
    (rw (c.add-3.ensures j h, lane_get j v2 c.args.c, lane_get j v2 c.args.d) refl) in
    let e4 = lane_set j v3 c.args.b c.xor_rotate-2.result (rotate_right w32 (bit_xor (slice_index (lane j v3) c.args.b) (slice_index (lane j v3) c.args.c)) c.args.s)
    (rw (c.xor_rotate-2.ensures j h, lane_get j v3 c.args.b, lane_get j v3 c.args.c) refl) in
    rw (e4, e3, e2, e1) refl
