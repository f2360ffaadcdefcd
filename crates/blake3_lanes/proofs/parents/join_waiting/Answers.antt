use Rattle.std.proofs.Common.{arith, sym, ◌∙◌, ◌<◌, refl}
use Rattle.blake3_lanes.proofs.Subtrees.{joined_halves, joined_quarters}
use Rattle.blake3_lanes.proofs.parents.join_waiting.Goals as goal

pub returns-clause-halves : goal.returns-clause-halves
returns-clause-halves c =
    let l0 : 0 < 4 = omega arith in
    let l1 : 1 < 4 = omega arith in
    joined_halves _ refl
    ∙ rw (c.parents4-rows.ensures 0 l0, c.parents4-rows.ensures 1 l1) refl
    ∙ sym (joined_quarters c.args.waiting.now.quarters (omega arith))

pub returns-clause-whole : goal.returns-clause-whole
returns-clause-whole c =
    let l2 : 2 < 4 = omega arith in
    c.parents4-rows.ensures 2 l2 ∙ sym (joined_halves c.args.waiting.now.halves (omega arith))
