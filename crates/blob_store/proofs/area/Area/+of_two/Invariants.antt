use Rattle.std.proofs.Common.{◌-◌}
use Rattle.blob_store.proofs.area.Area.+of_two.Given as goal

abbrev pub decreases-of_two : goal.decreases-of_two
decreases-of_two l = l.high - l.low
