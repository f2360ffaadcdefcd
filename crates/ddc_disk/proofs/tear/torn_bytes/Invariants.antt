use Rattle.std.proofs.Common.{◌≡◌, ◌+◌, ◌≤◌, max, length}
use Rattle.ddc_disk.proofs.tear.torn_bytes.Given as goal

abbrev pub invariant-loop-place : goal.invariant-loop-place
invariant-loop-place l = (length l.bytes.items + l.from ≡ l.place) × (l.place ≤ max l.from l.to)
