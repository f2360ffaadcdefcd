use Rattle.std.proofs.Common.{◌≡◌, ℕ, List, ◌+◌, ◌*◌, ◌%◌, ◌^◌, take, drop, add-one, sym, ◌∙◌}
use Rattle.std.proofs.lemmas.List.{take_rest}
use Rattle.tree_hash.specs.TreeHash.{value}
use Rattle.tree_hash.proofs.Cuts.{shifted, value_chunk, value_cut}
use Rattle.tree_hash.proofs.tree.+value.Goals as goal

pub returns-then-bytes-le1024 : goal.returns-then-bytes-le1024
returns-then-bytes-le1024 t c =
    c.flagged_chunk.ensures ∙ sym (value_chunk c.args.bytes.now c.args.number c.args.flag c.if-bytes-le1024.true)

pub returns : goal.returns
returns t c =
    let b : List ℕ = c.args.bytes.now in
    let d : ℕ = c.left_height.result in
    let n : ℕ = c.args.number in
    let e : 1 * 2 ^ d % 2 ^ 64 ≡ 2 ^ d = shifted d c.left_height.ensures.small in
    let left : c.value-left.result ≡ value (take (1024 * 2 ^ d) b) n 0 = rw e at c.value-left.ensures in
    let right : c.value-right.result ≡ value (drop (1024 * 2 ^ d) b) (n + 2 ^ d) 0 = rw (e, take_rest) at c.value-right.ensures in
    c.flagged_parent.ensures ∙ rw (left, right) (sym (value_cut d b n c.args.flag c.left_height.ensures.leaves (rw add-one at c.left_height.ensures.greatest)))
