use Rattle.std.proofs.Common.{◌∷◌, [], refl}
use Rattle.blake3_hash.specs.Spine.{joined}
use Rattle.blake3_hash.proofs.spine.Spine.push.Goals as goal

pub returns-clause-pushed : goal.returns-clause-pushed
unfolding joined
returns-clause-pushed c = λ xs pushed. c.push_subtree.ensures.pushed xs (c.args.chunk.now ∷ []) pushed refl refl
