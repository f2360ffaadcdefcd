use Rattle.std.proofs.Common.{take, ap, ◌∙◌}
use Rattle.tree_hash.specs.TreeHash.{io}
use Rattle.io_hash.proofs.whole.cut_hash.Goals as goal

pub returns : goal.returns
unfolding io
returns c m fed = c.cut.ensures ∙ ap (λ r. take 20 r) (c.finish.ensures m fed)
