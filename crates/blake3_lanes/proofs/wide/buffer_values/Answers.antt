use Rattle.std.proofs.Common.{◌≡◌, ℕ, ◌+◌, ◌-◌, ◌/◌, sym, ◌∙◌, arith}
use Rattle.blake3_lanes.proofs.Buffered.{short_last}
use Rattle.blake3_lanes.proofs.Groups.{leaves_front}
use Rattle.blake3_lanes.proofs.wide.buffer_values.Goals as goal

pub returns-then-used-gt0 : goal.returns-then-used-gt0
returns-then-used-gt0 c =
    let w : ℕ = c.args.used / 1024 in
    let same : (c.args.used - 1) / 1024 ≡ w = omega arith in
    rw same
    (short_last w c.args.used c.args.number c.args.buffer.now c.first_of_eight-values.result c.flagged_chunk.result (omega arith) (omega arith) (omega arith)
    (omega arith) c.first_of_eight-values.ensures c.flagged_chunk.ensures)

pub returns-else-used-gt0 : goal.returns-else-used-gt0
returns-else-used-gt0 c =
    let w : ℕ = c.args.used / 1024 in
    let all : (c.args.used - 1) / 1024 + 1 ≡ w = omega arith in
    rw all (c.first_of_eight-values.ensures ∙ sym (leaves_front w c.args.used c.args.buffer.now c.args.number (omega arith)))
