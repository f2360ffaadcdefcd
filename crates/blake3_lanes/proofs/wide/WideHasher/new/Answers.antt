use Rattle.blake3_hash.proofs.Held.{IsHeld_none}
use Rattle.blake3_lanes.proofs.wide.WideHasher.new.Goals as goal

pub returns-clause-fed : goal.returns-clause-fed
returns-clause-fed c = IsHeld_none _ _ _ c.new.ensures.count c.new.ensures.pushed
