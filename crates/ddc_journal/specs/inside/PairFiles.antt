-- What becomes of the two files while one of them is written.
use Rattle.std.specs.Prelude.{◌≡◌, ℕ, Bool, true, false, List}
use Rattle.ddc_disk.specs.Images.{Images}
use Rattle.ddc_disk.specs.declared.devices.Devices.{Devices}
use Rattle.ddc_journal.specs.Journal.{front_size}
use Rattle.ddc_journal.specs.Pairs.{PairView}

-- the device of a file
abbrev pub device_of : {D : Type 0} → Bool → Devices D → D
device_of true devices = devices.second
device_of false devices = devices.first

abbrev pub other_of : {D : Type 0} → Bool → Devices D → D
other_of true devices = devices.first
other_of false devices = devices.second

-- one of the two files has P, and the other is this one
abbrev pub OneChanges : Bool → (List ℕ → Type 0) → List ℕ → Images → Type 0
OneChanges true P other im = (im.first ≡ other) × P im.second
OneChanges false P other im = P im.first × (im.second ≡ other)

-- the pair that was made just now
abbrev pub created : ℕ → PairView
created version = record { second = false; version = version; generation = 1; end = front_size }
