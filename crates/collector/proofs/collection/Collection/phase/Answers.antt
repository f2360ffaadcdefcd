use Rattle.std.proofs.Common.{rules}
use Rattle.cb_fields.specs.declared.links.LinkKind.TheVariants.{Object, Binary}
use Rattle.collector.specs.contracts.collection.Collection.{the_view}
use Rattle.collector.proofs.Views.{grey_as}
use Rattle.collector.proofs.collection.Collection.phase.Goals as goal

pub returns-then-not-is_idle : goal.returns-then-not-is_idle
returns-then-not-is_idle c = grey_as (the_view c.self.inside) c.args.self.now Object c.self.view_is c.self.invariant.distinct c.self.invariant.objects (c.is_idle.ensures.no (search rules))

pub returns-then-not-is_idle-2 : goal.returns-then-not-is_idle-2
returns-then-not-is_idle-2 c = grey_as (the_view c.self.inside) c.args.self.now Binary c.self.view_is c.self.invariant.distinct c.self.invariant.binaries (c.is_idle-2.ensures.no (search rules))
