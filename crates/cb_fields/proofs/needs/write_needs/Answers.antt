use Rattle.std.proofs.Common.{◌≡◌, ◌^◌, ◌<◌, length, arith}
use Rattle.cb_fields.specs.Needs.{AreHashes, needs_object}
use Rattle.cb_fields.proofs.Written.{needs_are_object}
use Rattle.cb_fields.proofs.needs.write_needs.Goals as goal

pub returns-in-Ok-clause-object : goal.returns-in-Ok-clause-object
returns-in-Ok-clause-object c =
    let is : c.in-Ok.bytes.items ≡ needs_object c.args.hashes.now = c.in-Ok.ensures.bytes in
    let hashes : AreHashes c.args.hashes.now = c.in-Ok.ensures.hashes in
    let held : length c.in-Ok.bytes.items < 2 ^ 64 = omega arith in
    let small : length (needs_object c.args.hashes.now) < 2 ^ 64 = rw is at held in
    rw (c.of_vec.ensures, is) (needs_are_object c.args.hashes.now hashes small)
