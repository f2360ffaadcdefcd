use Rattle.std.proofs.Common.{refl, arith}
use Rattle.std.specs.List.{Contains}
use Rattle.std.proofs.lemmas.List.{get_or_default}
use Rattle.std.proofs.lemmas.List.Elements.{Contains-get_or}
use Rattle.collector.proofs.Turning.{none_met, met_then, safe_more}
use Rattle.collector.proofs.collection.Collection.meet_all.Goals as goal

pub loop-link-init : goal.loop-link-init
loop-link-init c = record {
  met = none_met (Contains c.args.links.now) c.args.self.now c.args.self.now refl;
  safe = λ k d lt t. absurd (omega (arith, lt));
}

pub loop-link-preserved : goal.loop-link-preserved
loop-link-preserved c = record {
  met = met_then (Contains c.args.links.now) _ c.args.self.now c.loop-link.self c.meet.new.self c.loop-link.invariant.met c.meet.ensures.met (Contains-get_or c.args.links.now c.loop-link.link-index _ c.loop-link-test.true);
  safe = safe_more c.args.links.now c.loop-link.link-index _ c.loop-link.self c.meet.new.self c.loop-link-test.true (λ d. get_or_default c.args.links.now c.loop-link.link-index d _ c.loop-link-test.true) c.loop-link.invariant.safe c.meet.ensures.met c.meet.ensures.safe;
}

pub returns-clause-safe : goal.returns-clause-safe
returns-clause-safe c k d lt = c.loop-link.invariant.safe k d (omega arith)
