use Rattle.std.proofs.Common.{refl}
use Rattle.blake3_lanes.proofs.block.turned.Goals as goal

pub returns : goal.returns
returns c j h = rw (c.from_fourth.ensures j h, c.from_second.ensures j h, c.from_third.ensures j h) refl
