use Rattle.std.proofs.Common.{arith, ◌∙◌, sym}
use Rattle.blake3_hash.proofs.Levels.{Holds_length, spine_root_none}
use Rattle.blake3_hash.proofs.spine.root.Goals as goal

pub returns-then-count-eq0 : goal.returns-then-count-eq0
returns-then-count-eq0 c = λ xs h.
    c.flagged_chunk.ensures ∙ sym (spine_root_none xs c.args.rest.now (omega (arith, Holds_length _ _ xs h)))

pub returns : goal.returns
returns c = λ xs h. c.root_by.ensures xs c.args.rest.now h c.flagged_chunk-2.ensures
