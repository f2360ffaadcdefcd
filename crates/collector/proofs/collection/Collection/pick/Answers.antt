use Rattle.collector.proofs.Views.{picks_both}
use Rattle.collector.proofs.collection.Collection.pick.Goals as goal

pub returns-in-None : goal.returns-in-None
returns-in-None c = picks_both c.args.self.now c.pick_object.new.self c.pick_binary.new.self c.pick_binary.result c.in-None.ensures c.pick_binary.ensures
