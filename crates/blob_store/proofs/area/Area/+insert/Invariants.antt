use Rattle.std.proofs.Common.{◌-◌}
use Rattle.blob_store.proofs.area.Area.+insert.Given as goal

abbrev pub decreases-insert : goal.decreases-insert
decreases-insert l = l.high - l.low
