use Rattle.std.proofs.Common.{◌-◌}
use Rattle.blob_store.proofs.area.Area.+remove.Given as goal

abbrev pub decreases-remove : goal.decreases-remove
decreases-remove l = l.high - l.low
