use Rattle.std.proofs.lemmas.Result.{err_from_is_err_and}
use Rattle.ddc_entry.specs.inside.Reading.{hash_at, many_at}
use Rattle.ddc_entry.proofs.Many.{goes_on, ends, all_read}
use Rattle.ddc_entry.proofs.parts.take_hashes.Goals as goal

pub returns-in_err-hash : goal.returns-in_err-hash
returns-in_err-hash c =
    let p = err_from_is_err_and c.from_residual.result c.from_residual.ensures.1 in
    rw (p.1, p.2) (ends c.in_err-hash.field-0.0 hash_at c.loop.hashes.items c.args.count c.loop.counter c.loop.rest.now (many_at hash_at c.args.count c.args.bytes.now) c.loop-test.true c.in_err-hash.ensures c.loop.invariant)

pub loop-preserved : goal.loop-preserved
loop-preserved c =
    let l = c.in_ok-hash.hash in
    rw c.in_ok-push.ensures.items (goes_on hash_at c.loop.hashes.items c.args.count c.loop.counter c.loop.rest.now l c.in_ok-hash.behind.now (many_at hash_at c.args.count c.args.bytes.now) c.loop-test.true c.in_ok-hash.ensures c.loop.invariant)

pub returns : goal.returns
returns c = all_read hash_at c.loop.hashes.items c.args.count c.loop.counter c.loop.rest.now (many_at hash_at c.args.count c.args.bytes.now) c.loop-test.false c.loop.invariant
