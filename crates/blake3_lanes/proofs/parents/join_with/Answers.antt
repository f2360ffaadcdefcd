use Rattle.std.proofs.Common.{arith, sym, ◌∙◌, ◌<◌, refl}
use Rattle.blake3_lanes.proofs.Subtrees.{joined_eight, joined_halves, joined_quarters}
use Rattle.blake3_lanes.proofs.parents.join_with.Goals as goal

pub returns-clause-quarters : goal.returns-clause-quarters
returns-clause-quarters c =
    let l0 : 0 < 8 = omega arith in
    let l1 : 1 < 8 = omega arith in
    let l2 : 2 < 8 = omega arith in
    let l3 : 3 < 8 = omega arith in
    joined_quarters _ refl
    ∙ rw (c.parents8_with-rows.ensures 0 l0, c.parents8_with-rows.ensures 1 l1, c.parents8_with-rows.ensures 2 l2, c.parents8_with-rows.ensures 3 l3) refl
    ∙ sym (joined_eight c.args.v.now (omega arith))

pub returns-clause-halves : goal.returns-clause-halves
returns-clause-halves c =
    let l4 : 4 < 8 = omega arith in
    let l5 : 5 < 8 = omega arith in
    joined_halves _ refl
    ∙ rw (c.parents8_with-rows.ensures 4 l4, c.parents8_with-rows.ensures 5 l5) refl
    ∙ sym (joined_quarters c.args.waiting.now.quarters (omega arith))

pub returns-clause-whole : goal.returns-clause-whole
returns-clause-whole c =
    let l6 : 6 < 8 = omega arith in
    c.parents8_with-rows.ensures 6 l6 ∙ sym (joined_halves c.args.waiting.now.halves (omega arith))
