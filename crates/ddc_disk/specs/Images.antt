-- The three devices of a store at one moment.
use Rattle.std.specs.Prelude.{◌≡◌, ℕ, ◌+◌, ◌-◌, ◌^◌, List, max, min}
use Rattle.ddc_disk.specs.Disk.{Timeline, Meaning}
use Rattle.ddc_disk.specs.declared.devices.Devices.{Devices}

-- an image of each device
pub record Images : Type 0 where
  pub first : List ℕ
  pub second : List ℕ
  pub blobs : List ℕ

-- a crash takes an image of each device at one moment
abbrev pub together : Meaning → Meaning → Meaning → Timeline Images
together first second blobs = record {
  moment = max (max first.line.moment second.line.moment) blobs.line.moment;
  left = λ t im. first.line.left t im.first × second.line.left t im.second × blobs.line.left t im.blobs;
}

-- the joint images of the devices; `meaning` is that of each
abbrev pub devices_line : {D : Type 0} → (D → Meaning) → Devices D → Timeline Images
devices_line meaning devices = together (meaning devices.first) (meaning devices.second) (meaning devices.blobs)

-- their count of faults: the sum, up to the end of its type
abbrev pub devices_faults : {D : Type 0} → (D → Meaning) → Devices D → ℕ
devices_faults meaning devices = min ((meaning devices.first).faults + (meaning devices.second).faults + (meaning devices.blobs).faults) (2 ^ 64 - 1)

-- a device is lent at the latest moment of all, and was only told so
pub record IsLent (old : Meaning) (all : Timeline Images) (lent : Meaning) : Type 0 where
  pub latest : lent.line.moment ≡ all.moment
  pub held : lent.held ≡ old.held
  pub faults : lent.faults ≡ old.faults
  pub left : (t : ℕ) (image : List ℕ) → lent.line.left t image → old.line.left t image
  pub stays : (t : ℕ) (image : List ℕ) → old.line.left t image → lent.line.left t image
