use Rattle.std.proofs.Common.{◌≡◌, ℕ, List, ◌+◌, ◌-◌, ◌++◌, length, take, ap, arith, length-append}
use Rattle.std.proofs.lemmas.List.{length-take-le, take_rest}
use Rattle.blake3_hash.specs.Spine.{Holds, leaves}
use Rattle.blake3_hash.proofs.Held.{IsHeld_fits, filled, whole_of}
use Rattle.blake3_lanes.specs.WideFed.{IsWideFed}
use Rattle.blake3_lanes.proofs.Groups.{group_filled}
use Rattle.blake3_lanes.proofs.wide.WideHasher.update.Goals as goal

pub returns-then-bytes-room-clause-fed : goal.returns-then-bytes-room-clause-fed
returns-then-bytes-room-clause-fed c m fed =
    let f : IsWideFed (record { spine = c.self.inside.spine; buffer = c.self.inside.buffer; used = c.self.inside.used }) m = rw (← c.self.view_is) at fed in
    IsHeld_fits _ _ c.self.inside.buffer c.self.inside.used _ m c.args.bytes.now _ f (omega arith) c.copy_from_slice.ensures.after

pub returns-clause-fed : goal.returns-clause-fed
returns-clause-fed c m fed =
    let f : IsWideFed (record { spine = c.self.inside.spine; buffer = c.self.inside.buffer; used = c.self.inside.used }) m = rw (← c.self.view_is) at fed in
    let d : List ℕ = c.args.bytes.now in
    let used : ℕ = c.self.inside.used in
    let n : ℕ = c.self.inside.spine.count in
    let room : ℕ = 8192 - used in
    let part : length (take room d) ≡ room = length-take-le room d (omega arith) in
    let full = filled used (8192 - used) c.self.inside.buffer c.copy_from_slice-2.new.self (take room d) (omega arith) c.copy_from_slice-2.ensures.after in
    let grown : leaves (n + 8) (m ++ take room d) 0 ≡ leaves n m 0 ++ c.chunks8.result =
    group_filled n c.self.inside.buffer used m (take room d) _ c.chunks8.result f.len f.rest (omega arith) full (rw (← c.self.invariant.0) c.chunks8.ensures) in
    let held : Holds c.push_values.new.spine.levels c.push_values.new.spine.count (leaves c.push_values.new.spine.count (m ++ take room d) 0) =
    rw (ap (λ (i : ℕ). leaves i (m ++ take room d) 0) c.push_values.ensures.count, grown) (c.push_values.ensures.pushed (leaves n m 0) f.spine) in
    let all = c.absorb-self-inside-2.ensures.held (m ++ take room d) (omega (arith, c.push_values.ensures.count, f.len, length-append m (take room d))) held in
    rw (take_rest d room, whole_of m d room) at all
