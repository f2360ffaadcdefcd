use Rattle.std.proofs.Common.{refl}
use Rattle.collector.proofs.Starting.{object_some, object_none}
use Rattle.collector.proofs.collection.Collection.shade_object.Goals as goal

pub returns-in-Some : goal.returns-in-Some
returns-in-Some c = object_some c.args.self.now c.shade_known.new.self c.args.hash c.in-Some.hash c.in-Some.is c.shade_known.ensures

pub returns-in_default : goal.returns-in_default
returns-in_default c = object_none c.args.self.now c.args.self.now c.args.hash c.in_default.is refl
