use Rattle.collector.proofs.Covering.{loose_unreached}
use Rattle.collector.proofs.laws.loose_is_unreached.Goals as goal

pub returns : goal.returns
returns c = loose_unreached
