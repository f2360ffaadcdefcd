use Rattle.std.proofs.Common.{sym}
use Rattle.ddc_entry.specs.inside.Reading.{spot_at, many_at}
use Rattle.ddc_entry.proofs.Many.{goes_on, stops, all_read}
use Rattle.ddc_entry.proofs.parts.take_spots.Goals as goal

pub returns-in_default : goal.returns-in_default
returns-in_default c = stops spot_at c.loop.spots.items c.args.count c.loop.counter c.loop.rest.now (many_at spot_at c.args.count c.args.bytes.now) c.loop-test.true (sym c.in_default.ensures) c.loop.invariant

pub loop-preserved : goal.loop-preserved
loop-preserved c =
    rw c.in_ok-push.ensures.items (goes_on spot_at c.loop.spots.items c.args.count c.loop.counter c.loop.rest.now c.in-Some.spot c.in-Some.behind.now (many_at spot_at c.args.count c.args.bytes.now) c.loop-test.true (sym c.in-Some.ensures) c.loop.invariant)

pub returns : goal.returns
returns c = all_read spot_at c.loop.spots.items c.args.count c.loop.counter c.loop.rest.now (many_at spot_at c.args.count c.args.bytes.now) c.loop-test.false c.loop.invariant
