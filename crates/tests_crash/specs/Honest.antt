-- Stores over disks in memory whose devices were honest, and what a crash leaves of them.
use Rattle.std.specs.Prelude.{◌≡◌, ◌⊎◌, ℕ, ◌≤◌, true, List, []}
use Rattle.ddc_disk.specs.Disk.{EachImage}
use Rattle.ddc_disk.specs.Images.{Images, devices_line}
use Rattle.ddc_disk.specs.Memory.{MemoryHistory}
use Rattle.ddc_disk.specs.MemDisks.{history_of, told_by}
use Rattle.ddc_disk.specs.declared.devices.Devices.{Devices}
use Rattle.ddc_disk.specs.declared.mem_disk.MemDisk.{MemDisk}
use Rattle.ddc_journal.specs.Pairs.{NoneMade}
use Rattle.ddc_model.specs.declared.entry.Step.{Step}
use Rattle.ddc_model.specs.declared.rows.Limits.{Limits}
use Rattle.ddc_model.specs.Sound.{Cache, empty_cache}
use Rattle.ddc_opening.specs.Opening.{OpensSound}
use Rattle.ddc_book.specs.View.{BookView, limits_of, book_line, IsHonest, OpensFrom}

-- ---- disks

-- of a disk that was made just now, none of whose calls is listed to fail
abbrev pub new_history : MemoryHistory
new_history = record { start = []; failing = []; calls = []; moment = 0; starved = 0 }

-- each disk was made just now
pub record AreNew (devices : Devices MemDisk) : Type 0 where
  pub first : history_of devices.first ≡ new_history
  pub second : history_of devices.second ≡ new_history
  pub blobs : history_of devices.blobs ≡ new_history

-- a crash leaves a sound state
abbrev pub HoldSound : Limits → Devices MemDisk → Type 0
HoldSound limits devices = EachImage (devices_line told_by devices) (λ im. (state : Cache) × OpensSound limits im state)

-- ---- stores

-- a store within these limits, opened at this moment, which is past, and its devices were honest then
pub record WasHonest (limits : Limits) (opened : ℕ) (book : BookView MemDisk) : Type 0 where
  pub within : limits_of book ≡ limits
  pub opening : book.opened ≡ opened
  pub time : opened ≤ (book_line told_by book).moment
  pub honest : IsHonest true (book_line told_by book) limits opened

-- ---- what a crash leaves

-- no store, or the empty one
abbrev pub NoneOrEmpty : Limits → Images → Type 0
NoneOrEmpty limits im = NoneMade im.first im.second ⊎ OpensSound limits im (empty_cache limits)

-- no store, or a sound state that some of the first steps leave
abbrev pub NoneOrFrom : Limits → List Step → Images → Type 0
NoneOrFrom limits steps im = NoneMade im.first im.second ⊎ OpensFrom 0 limits steps im
