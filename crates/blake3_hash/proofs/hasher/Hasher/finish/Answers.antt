use Rattle.std.proofs.Common.{ap, ◌∙◌}
use Rattle.tree_hash.specs.TreeHash.{blake3, words_bytes}
use Rattle.blake3_hash.specs.Spine.{leaves, spine_hash}
use Rattle.blake3_hash.specs.Fed.{IsFed}
use Rattle.blake3_hash.proofs.Held.{IsHeld_root}
use Rattle.blake3_hash.proofs.hasher.Hasher.finish.Goals as goal

pub returns : goal.returns
unfolding blake3 spine_hash
returns c m fed =
    let f : IsFed (record { spine = c.self.inside.spine; buffer = c.self.inside.buffer; used = c.self.inside.used }) m = rw (← c.self.view_is) at fed in
    c.finish.ensures (leaves c.self.inside.spine.count m 0) f.spine
    ∙ ap words_bytes (IsHeld_root _ _ _ _ m f c.self.invariant.0)
