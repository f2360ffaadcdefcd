use Rattle.std.proofs.Common.{◌+◌, ◌-◌, ◌/◌, length, arith}
use Rattle.blake3_lanes.proofs.Groups.{first_leaves, rows_leaves}
use Rattle.blake3_lanes.proofs.wide.four_values.Goals as goal

pub returns-then-bytes-eq4096 : goal.returns-then-bytes-eq4096
returns-then-bytes-eq4096 c =
    first_leaves ((length c.args.bytes.now - 1) / 1024 + 1) 4 c.args.bytes.now 0 c.chunks4.result (omega arith)
    (rows_leaves 4 c.chunks4.result c.args.bytes.now 0 (omega arith) c.chunks4.ensures)
