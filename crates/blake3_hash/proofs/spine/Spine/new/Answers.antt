use Rattle.std.proofs.Common.{refl}
use Rattle.blake3_hash.proofs.Levels.{Holds_none}
use Rattle.blake3_hash.proofs.spine.Spine.new.Goals as goal

pub returns-clause-pushed : goal.returns-clause-pushed
returns-clause-pushed c = Holds_none _ refl
