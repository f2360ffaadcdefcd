use Rattle.std.proofs.Common.{◌≡◌, ◌%◌, nat_eq, length}
use Rattle.ddc_disk.specs.Memory.{MemoryState, fresh, after_calls, Follows, with_all}
use Rattle.ddc_disk.proofs.tear.crash_image.Given as goal

abbrev pub invariant-loop-rest : goal.invariant-loop-rest
invariant-loop-rest l = (s : MemoryState) × Follows s l.replay.image.items l.replay.reads.items × (after_calls s l.rest ≡ after_calls (fresh l.start) l.calls)
    × (l.moves ≡ 0 → (l.replay.choice ≡ 0) × (l.replay.image.items ≡ with_all l.replay.whole s))
    × (l.replay.whole ≡ nat_eq (l.choice % 2) 1)

abbrev pub decreases-loop-rest : goal.decreases-loop-rest
decreases-loop-rest l = length l.rest
