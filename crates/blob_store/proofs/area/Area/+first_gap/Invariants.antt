use Rattle.blob_store.proofs.Parts.{count_parts}
use Rattle.blob_store.proofs.area.Area.+first_gap.Given as goal

abbrev pub decreases-first_gap : goal.decreases-first_gap
decreases-first_gap l = count_parts l.self.now
