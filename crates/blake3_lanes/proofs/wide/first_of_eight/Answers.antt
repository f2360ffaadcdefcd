use Rattle.std.proofs.Common.{◌≡◌, ℕ, List, take, drop, ap, ◌∙◌, arith}
use Rattle.std.proofs.lemmas.List.{length-drop, take_all}
use Rattle.blake3_lanes.proofs.Groups.{first_leaves, halves_leaves}
use Rattle.blake3_lanes.proofs.LaneLemmas.{rows_beside}
use Rattle.blake3_lanes.proofs.wide.first_of_eight.Goals as goal

pub returns-then-whole-gt4 : goal.returns-then-whole-gt4
returns-then-whole-gt4 c =
    first_leaves c.args.whole 8 c.args.buffer.now c.args.number c.chunks8_before.result c.requires.whole c.chunks8_before.ensures

pub returns : goal.returns
returns c =
    let a : List (List ℕ) = c.first_of_four-a.result in
    let b : List (List ℕ) = c.first_of_four-b.result in
    let rest : List ℕ = drop 4096 c.args.buffer.now in
    let whole : take 4096 rest ≡ rest = take_all 4096 rest (omega (arith, length-drop 4096 c.args.buffer.now)) in
    ap (λ (r : List (List ℕ)). take c.args.whole r) (rows_beside a b (omega arith) (omega arith))
    ∙ halves_leaves c.args.whole _ _ a b c.args.buffer.now c.args.number (omega arith) (omega (arith, c.min.ensures)) (omega arith)
    c.first_of_four-a.ensures (rw whole at c.first_of_four-b.ensures)
