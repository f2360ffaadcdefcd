use Rattle.std.proofs.Common.{◌≡◌, ℕ, List, ◌+◌, ◌-◌, ◌*◌, ◌/◌, length, take, drop, ap, ◌∙◌, arith}
use Rattle.std.proofs.lemmas.List.{take_all}
use Rattle.tree_hash.specs.TreeHash.{chunk_value}
use Rattle.blake3_hash.specs.Spine.{leaves}
use Rattle.blake3_lanes.proofs.Buffered.{short_last}
use Rattle.blake3_lanes.proofs.wide.copied_values.Goals as goal

pub returns-then-bytes-gt0 : goal.returns-then-bytes-gt0
returns-then-bytes-gt0 c =
    let b : List ℕ = c.args.bytes.now in
    let w : ℕ = length b / 1024 in
    let v : List (List ℕ) = c.first_of_four-values.result in
    let same : (length b - 1) / 1024 ≡ w = omega arith in
    let none : 0 + w ≡ w = omega arith in
    let front : take w v ≡ leaves w b 0 = c.first_of_four-values.ensures ∙ c.four_chunks.ensures w 0 (omega arith) in
    let x : c.flagged_chunk.result ≡ chunk_value (take (length b - 1024 * w) (drop (1024 * w) b)) (0 + w) 0 = rw none c.flagged_chunk.ensures in
    rw same
    (short_last w (length b) 0 b v c.flagged_chunk.result (omega arith) (omega arith) (omega arith) (omega arith) front x
    ∙ ap (λ (r : List ℕ). leaves (w + 1) r 0) (take_all (length b) b (omega arith)))
