use Rattle.std.proofs.Common.{◌≡◌, ℕ, ◌+◌, ◌-◌, ◌*◌, arith}
use Rattle.blake3_lanes.proofs.wide.group_values.Goals as goal

pub returns : goal.returns
returns c =
    let k : ℕ = c.args.k in
    let width : 8192 * k + 8192 - 8192 * k ≡ 8192 = omega arith in
    rw width at c.chunks8_before.ensures
