use Rattle.std.proofs.Common.{◌<◌, [], length, arith}
use Rattle.std.proofs.lemmas.Grind.{common_steps}
use Rattle.std.proofs.lemmas.List.{take_more}
use Rattle.ddc_names.specs.declared.hash.IoHash.{IoHash}
use Rattle.cb_fields.proofs.Written.{hashes_append}
use Rattle.cb_fields.proofs.needs.listed.Goals as goal

pub loop-hash-preserved : goal.loop-hash-preserved
loop-hash-preserved c =
    let below : c.loop-hash.hash-index < length c.args.hashes.now = c.loop-hash-test.true in
    let none : IoHash = record { 0 = [] } in
    let more = take_more c.args.hashes.now c.loop-hash.hash-index none below in
    let count = c.in_ok-push_hash.ensures.count in
    (grind (arith, common_steps), rw more (hashes_append _ _ c.loop-hash.invariant.1 (count, tt)))
