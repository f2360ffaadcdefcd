use Rattle.std.proofs.Common.{◌≡◌, ℕ, List, [], ◌∷◌, sym, ap, arith}
use Rattle.std.proofs.lemmas.List.{length-take-le}
use Rattle.blake3_hash.specs.Spine.{leaves}
use Rattle.blake3_hash.proofs.Leaves.{leaves_none}
use Rattle.blake3_lanes.proofs.Groups.{first_leaves, rows_leaves}
use Rattle.blake3_lanes.proofs.wide.first_of_four.Goals as goal

pub returns-then-whole-gt1 : goal.returns-then-whole-gt1
returns-then-whole-gt1 c =
    first_leaves c.args.whole 4 c.args.chunks.now c.args.number c.chunks4.result c.requires.whole
    (rows_leaves 4 c.chunks4.result c.args.chunks.now c.args.number (omega arith) c.chunks4.ensures)

pub slice_bounds-flagged_chunk-end : goal.slice_bounds-flagged_chunk-end
slice_bounds-flagged_chunk-end c = omega (arith, length-take-le 1024 c.args.chunks.now (omega arith))

pub flagged_chunk-requires-clause-len : goal.flagged_chunk-requires-clause-len
flagged_chunk-requires-clause-len c = omega (arith, length-take-le 1024 c.args.chunks.now (omega arith))

pub returns-then-whole-eq1 : goal.returns-then-whole-eq1
unfolding leaves
returns-then-whole-eq1 c =
    let one : c.args.whole ≡ 1 = omega arith in
    rw one (ap (λ (r : List ℕ). r ∷ []) c.flagged_chunk.ensures)

pub returns-else-whole-eq1 : goal.returns-else-whole-eq1
returns-else-whole-eq1 c =
    let none : c.args.whole ≡ 0 = omega arith in
    rw none (sym (leaves_none c.args.chunks.now c.args.number))
