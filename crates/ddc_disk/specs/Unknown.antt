-- A disk that tells nothing of what it holds: a crash may leave anything.
use Rattle.std.specs.Prelude.{◌≡◌, ℕ, ◌<◌, ◌^◌, List, None, Some, length, IsTrue, IsSome, false, Option}
use Rattle.ddc_disk.specs.Disk.{Meaning, Rests, Tears}
use Rattle.ddc_disk.specs.Since.{torn_not}

abbrev pub unknown : ℕ → ℕ → Meaning
unknown faults moment = record { held = None; faults = faults; line = record { moment = moment; left = λ t image. Unit {0} } }

pub unknown_rests : (faults moment : ℕ) → Rests (unknown faults moment).line
unknown_rests faults moment = record { stands = λ t image le left. tt; lasts = λ t image le now. tt }

pub never_told : (held : Option (List ℕ)) → IsTrue false → IsSome held
never_told held is = cc is

pub never_small : (file : List ℕ) → None ≡ Some file → length file < 2 ^ 64
never_small file is = cc is

pub unknown_tears : (at n faults moment faults' moment' : ℕ) → Tears at n (unknown faults moment).line (unknown faults' moment').line
unknown_tears at n faults moment faults' moment' image now = (image, tt, torn_not at n image)
