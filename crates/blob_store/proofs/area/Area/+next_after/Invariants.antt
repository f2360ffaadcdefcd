use Rattle.blob_store.proofs.Parts.{count_parts}
use Rattle.blob_store.proofs.area.Area.+next_after.Given as goal

abbrev pub decreases-next_after : goal.decreases-next_after
decreases-next_after l = count_parts l.self.now
