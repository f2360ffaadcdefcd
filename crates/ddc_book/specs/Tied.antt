-- How the devices of a store go on from the moment at which they were handed in.
use Rattle.ddc_disk.specs.Disk.{Timeline, Meaning, EachSince}
use Rattle.ddc_disk.specs.Images.{Images, devices_line}
use Rattle.ddc_disk.specs.declared.devices.Devices.{Devices}

-- they are those of that start: what a crash left up to then is what it leaves of them then
abbrev pub GoesOnFrom : {D : Type 0} → Timeline Images → (D → Meaning) → Devices D → Type 0
GoesOnFrom start meaning devices = EachSince start (devices_line meaning devices) (λ _. Unit {0})
