use Rattle.cb_fields.specs.declared.links.LinkKind.TheVariants.{Object, Binary}
use Rattle.collector.specs.contracts.collection.Collection.{the_view}
use Rattle.collector.proofs.Views.{no_grey_at}
use Rattle.collector.proofs.collection.Collection.end_if.Goals as goal

pub invariant_of-self : goal.invariant_of-self
invariant_of-self c = record {
  distinct = c.self.invariant.distinct;
  objects = c.self.invariant.objects;
  binaries = c.self.invariant.binaries;
  hash_room = c.self.invariant.hash_room;
  object_room = c.self.invariant.object_room;
  binary_room = c.self.invariant.binary_room;
  ended = λ e number. record {
    object = no_grey_at (the_view c.self.inside) c.args.self.now Object c.self.view_is c.self.invariant.distinct c.self.invariant.objects c.requires number;
    binary = no_grey_at (the_view c.self.inside) c.args.self.now Binary c.self.view_is c.self.invariant.distinct c.self.invariant.binaries c.requires number;
  };
}
