use Rattle.std.proofs.Common.{◌≡◌, ℕ, ◌-◌, List, ◌++◌, length, refl, replicate, drop}
use Rattle.std.proofs.lemmas.List.{drop-replicate}
use Rattle.blake3_lanes.proofs.chunk.padded.Goals as goal

padded_is : (ys xs : List ℕ) → ys ≡ xs → ys ++ drop (length xs) (replicate 64 0) ≡ xs ++ replicate (64 - length xs) 0
padded_is ys xs e = rw (e, drop-replicate {X = ℕ} (length xs) 64 0) refl

pub returns : goal.returns
returns c = padded_is _ c.args.bytes.now c.copy_from_slice.ensures.after
