use Rattle.std.proofs.Common.{◌+◌, ◌*◌, ◌<◌, ◌≤◌, length, arith, get_or, rules}
use Rattle.cb_fields.proofs.Room.{room_now, room_rest}
use Rattle.cb_fields.proofs.varuint.+spell.Goals as goal

pub overflow_mul-high : goal.overflow_mul-high
overflow_mul-high t c =
    let b : get_or c.args.bytes.now 0 0 < 256 = search rules in
    let some : 1 ≤ length c.args.bytes.now = omega arith in
    let fits : c.args.high * 256 + get_or c.args.bytes.now 0 0 < 18446744073709551616 = room_now _ _ _ (room_rest c.args.high (get_or c.args.bytes.now 0 0) _ c.args.bytes.now b some c.requires) in
    omega arith

pub overflow_add-high : goal.overflow_add-high
overflow_add-high t c =
    let b : get_or c.args.bytes.now 0 0 < 256 = search rules in
    let some : 1 ≤ length c.args.bytes.now = omega arith in
    let fits : c.args.high * 256 + get_or c.args.bytes.now 0 0 < 18446744073709551616 = room_now _ _ _ (room_rest c.args.high (get_or c.args.bytes.now 0 0) _ c.args.bytes.now b some c.requires) in
    omega arith

pub spell-requires : goal.spell-requires
spell-requires t c =
    let b : get_or c.args.bytes.now 0 0 < 256 = search rules in
    let some : 1 ≤ length c.args.bytes.now = omega arith in
    (search rules, room_rest c.args.high (get_or c.args.bytes.now 0 0) _ c.args.bytes.now b some c.requires)
