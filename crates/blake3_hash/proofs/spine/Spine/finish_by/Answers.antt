use Rattle.std.proofs.Common.{◌≡◌, ap, ◌∙◌}
use Rattle.tree_hash.specs.TreeHash.{chunk_value, words_bytes}
use Rattle.blake3_hash.specs.Spine.{Holds, spine_hash}
use Rattle.blake3_hash.proofs.spine.Spine.finish_by.Goals as goal

pub returns : goal.returns
unfolding spine_hash
returns g c = λ xs rest pushed e.
    let h : Holds c.self.inside.levels c.self.inside.count xs = rw (← c.self.view_is) at pushed in
    let value : c.args.last.now ≡ chunk_value rest c.self.inside.count 0 = rw (← c.self.view_is) at e in
    c.bytes_of.ensures ∙ ap words_bytes (c.root_by.ensures xs rest h value)
