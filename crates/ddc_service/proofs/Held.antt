-- What the devices hold is one of their images.
use Rattle.std.proofs.Common.{◌≡◌, ℕ, List, refl}
use Rattle.std.specs.Prelude.{Bool, Option, None, Some, IfSome, IsSome, IsTrue}
use Rattle.ddc_disk.specs.Disk.{Meaning, IsImage, Rests}
use Rattle.ddc_disk.specs.Images.{Images, devices_line}
use Rattle.ddc_disk.specs.Lending.{all_now}
use Rattle.ddc_disk.specs.Told.{told_file}
use Rattle.ddc_disk.specs.declared.devices.Devices.{Devices}
use Rattle.ddc_opening.specs.Opening.{AllReach}
use Rattle.ddc_book.specs.View.{BookView, Reaches}
use Rattle.ddc_service.specs.Session.{OpensNow}

module _ {D : Type 0} (meaning : D → Meaning) (rests : (d : D) → Rests (meaning d).line) (reads : (d : D) (file : List ℕ) → (meaning d).held ≡ Some file → IsImage (meaning d).line file) where
  module _ (devices : Devices D) where
    held_image : (a b c : List ℕ) → (meaning devices.first).held ≡ Some a → (meaning devices.second).held ≡ Some b → (meaning devices.blobs).held ≡ Some c
        → IsImage (devices_line meaning devices) (record { first = a; second = b; blobs = c })
    held_image a b c first second blobs =
        all_now (meaning devices.first) (meaning devices.second) (meaning devices.blobs) (rests devices.first) (rests devices.second) (rests devices.blobs)
        (record { first = a; second = b; blobs = c }) (reads devices.first a first) (reads devices.second b second) (reads devices.blobs c blobs)

    -- what holds of each image holds of the blob file that they tell
    pub at_blobs : IsSome (meaning devices.first).held → IsSome (meaning devices.second).held → (P : List ℕ → Type 0) → ((im : Images) → IsImage (devices_line meaning devices) im → P im.blobs) → IfSome (meaning devices.blobs).held P
    at_blobs first second P each = split (meaning devices.blobs).held refl where
      split : (held : Option (List ℕ)) → (meaning devices.blobs).held ≡ held → IfSome held P
      split None is = tt
      split (Some c) is =
          let a = told_file (meaning devices.first).held first in
          let b = told_file (meaning devices.second).held second in
          each (record { first = a.0; second = b.0; blobs = c }) (held_image a.0 b.0 c a.1 b.1 is)

  -- where each image holds each blob to its end, the blob file does
  pub reaches_now : (tells : Bool) → ((d : D) → IsTrue tells → IsSome (meaning d).held) → (book : BookView D) → OpensNow tells meaning book → Reaches meaning book
  reaches_now tells told book (tell, opens) = at_blobs book.devices (told book.devices.first tell) (told book.devices.second tell) (λ file. AllReach file book.cache.index) (λ im now. (opens im now).reach)
