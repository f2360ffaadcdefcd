use Rattle.std.proofs.Common.{arith}
use Rattle.std.proofs.lemmas.List.{get_or_default}
use Rattle.collector.proofs.Starting.{no_leased, leased_more}
use Rattle.collector.proofs.collection.Collection.shade_leased.Goals as goal

pub loop-hash-init : goal.loop-hash-init
loop-hash-init c = no_leased c.args.leased.now c.args.self.now

pub loop-hash-preserved : goal.loop-hash-preserved
loop-hash-preserved c =
    leased_more c.args.leased.now c.loop-hash.hash-index _ c.args.self.now c.loop-hash.self c.shade_known.new.self c.loop-hash-test.true
    (λ d. get_or_default c.args.leased.now c.loop-hash.hash-index d _ c.loop-hash-test.true) c.loop-hash.invariant c.shade_known.ensures

pub returns : goal.returns
returns c = record { more = c.loop-hash.invariant.more; all = λ k d lt known. c.loop-hash.invariant.all k d (omega arith) known }
