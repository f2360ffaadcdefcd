use Rattle.collector.specs.inside.Starts.{GreyRoots, AreSlotsGreyTo}
use Rattle.collector.proofs.collection.Collection.shade_slots.Given as goal

abbrev pub invariant-loop : goal.invariant-loop
invariant-loop l = record {
  roots : GreyRoots l.index.state l.fn.self l.self;
  all : AreSlotsGreyTo l.index.state l.fn.self l.last l.self;
}
