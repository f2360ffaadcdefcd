use Rattle.std.proofs.Common.{arith, sym, ◌∙◌, ◌<◌, refl}
use Rattle.blake3_lanes.proofs.Subtrees.{joined_eight, joined_quarters}
use Rattle.blake3_lanes.proofs.parents.quarters8.Goals as goal

pub returns : goal.returns
returns c =
    let l0 : 0 < 4 = omega arith in
    let l1 : 1 < 4 = omega arith in
    let l2 : 2 < 4 = omega arith in
    let l3 : 3 < 4 = omega arith in
    joined_quarters c.parents4.result (omega arith)
    ∙ rw (c.parents4.ensures 0 l0, c.parents4.ensures 1 l1, c.parents4.ensures 2 l2, c.parents4.ensures 3 l3) refl
    ∙ sym (joined_eight c.args.values.now (omega arith))
