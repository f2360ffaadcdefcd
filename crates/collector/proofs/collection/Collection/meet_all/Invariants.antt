use Rattle.std.specs.List.{Contains}
use Rattle.collector.specs.inside.Steps.{AreMetBy, AreSafeTo}
use Rattle.collector.proofs.collection.Collection.meet_all.Given as goal

abbrev pub invariant-loop-link : goal.invariant-loop-link
invariant-loop-link l = record {
  met : AreMetBy (Contains l.links) l.initial.self l.self;
  safe : AreSafeTo l.link-index l.links l.self;
}
