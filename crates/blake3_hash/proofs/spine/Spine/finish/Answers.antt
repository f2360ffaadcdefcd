use Rattle.std.proofs.Common.{ap, ◌∙◌}
use Rattle.tree_hash.specs.TreeHash.{words_bytes}
use Rattle.blake3_hash.specs.Spine.{Holds, spine_hash}
use Rattle.blake3_hash.proofs.spine.Spine.finish.Goals as goal

pub returns : goal.returns
unfolding spine_hash
returns c = λ xs pushed.
    let h : Holds c.self.inside.levels c.self.inside.count xs = rw (← c.self.view_is) at pushed in
    c.bytes_of.ensures ∙ ap words_bytes (c.root.ensures xs h)
