use Rattle.blake3_lanes.proofs.LaneLemmas.{lane_get}
use Rattle.blake3_lanes.proofs.eight.kernel.start_state.Goals as goal

pub returns : goal.returns
returns c j n h low high =
    rw (c.splat.ensures j h, c.splat-2.ensures j h, c.splat-3.ensures j h, c.splat-4.ensures j h, low, high, c.splat-5.ensures j h, c.splat-6.ensures j h)
    (simp lane_get)
