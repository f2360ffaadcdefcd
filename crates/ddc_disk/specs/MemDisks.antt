-- The history of a disk in memory, and what it tells.
use Rattle.ddc_disk.specs.Disk.{Meaning, Timeline}
use Rattle.std.specs.Prelude.{List, ℕ}
use Rattle.ddc_disk.specs.declared.mem_disk.MemDisk.{MemDisk}
use Rattle.ddc_disk.specs.Memory.{MemoryHistory, memory_history, memory_meaning}

abbrev pub history_of : MemDisk → MemoryHistory
history_of disk = memory_history disk.log

abbrev pub told_by : MemDisk → Meaning
told_by disk = memory_meaning (history_of disk)

abbrev pub memory_line : MemDisk → Timeline (List ℕ)
memory_line disk = (told_by disk).line
