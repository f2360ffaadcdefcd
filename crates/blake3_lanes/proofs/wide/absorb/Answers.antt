use Rattle.std.proofs.Common.{◌≡◌, ℕ, List, ◌-◌, ◌*◌, ◌/◌, length, take, drop, ap, ◌∙◌, arith}
use Rattle.std.proofs.lemmas.List.{length-drop, take_rest}
use Rattle.blake3_hash.proofs.Held.{IsHeld_tail}
use Rattle.blake3_lanes.proofs.wide.absorb.Goals as goal

pub returns-clause-held : goal.returns-clause-held
returns-clause-held c m len h =
    let b : List ℕ = c.args.bytes.now in
    let n : ℕ = c.args.spine.now.count in
    let whole : ℕ = (length b - 1) / 8192 in
    let at : 8192 * whole ≡ 1024 * (8 * whole) = omega arith in
    IsHeld_tail _ n (8 * whole) _ (length (take (length b - 8192 * whole) (drop (8192 * whole) b))) _ c.args.buffer.now m b _ c.push_groups.ensures.count len (omega (arith, c.requires.some))
    (c.push_groups.ensures.pushed m len h)
    (c.copy_from_slice.ensures.after ∙ take_rest b (8192 * whole) ∙ ap (λ (i : ℕ). drop i b) at)
    (ap length (take_rest b (8192 * whole)) ∙ length-drop (8192 * whole) b ∙ omega arith)
