-- What a disk tells, which images a crash may leave of it, and what its calls do to them.
use Rattle.std.specs.Prelude.{◌≡◌, ℕ, ◌+◌, ◌-◌, ◌<◌, ◌≤◌, max, List, ◌++◌, length, take, drop, replicate, Option, Some}

-- a moment, and the images that a crash at each moment may leave; later moments count as this one
pub record Timeline (I : Type 0) : Type 1 where
  pub moment : ℕ
  pub left : ℕ → I → Type 0

-- what a disk holds, which is what reads give, where it tells that; its count of faults; its images
pub record Meaning : Type 1 where
  pub held : Option (List ℕ)
  pub faults : ℕ
  pub line : Timeline (List ℕ)

-- a crash now may leave this image
abbrev pub IsImage : {I : Type 0} → Timeline I → I → Type 0
IsImage line image = line.left line.moment image

-- each image that a crash now may leave has P
abbrev pub EachImage : {I : Type 0} → Timeline I → (I → Type 0) → Type 0
EachImage {I} line P = (image : I) → IsImage line image → P image

-- from the moment of `old` on, each image has P, and before that moment nothing has changed
pub record EachSince {I : Type 0} (old new : Timeline I) (P : I → Type 0) : Type 0 where
  pub later : old.moment ≤ new.moment
  pub keeps : (t : ℕ) (image : I) → t ≤ old.moment → old.left t image → new.left t image
  pub past : (t : ℕ) (image : I) → t ≤ old.moment → new.left t image → old.left t image
  pub each : (t : ℕ) (image : I) → old.moment ≤ t → new.left t image → P image

-- the file after a write that has its effect; a gap before it is filled with zeros
abbrev pub overwritten : List ℕ → ℕ → List ℕ → List ℕ
overwritten file at bytes = take at file ++ replicate (at - length file) 0 ++ bytes ++ drop (at + length bytes) file

-- a write of n bytes that isn't sure yet: the range, and what lies past the old end, may hold any
-- bytes, and the file ends anywhere from its old end to the greater of that end and the range's
pub record Torn (at n : ℕ) (old new : List ℕ) : Type 0 where
  pub middle : List ℕ
  pub parts : new ≡ take at old ++ middle ++ drop (at + n) old
  pub no_shorter : length old ≤ length new
  pub no_longer : length new ≤ max (length old) (at + n)

-- an image of before, after such a write
abbrev pub MayTear : ℕ → ℕ → Timeline (List ℕ) → List ℕ → Type 0
MayTear at n old image = (before : List ℕ) × IsImage old before × Torn at n before image

-- each image now is one of before, after such a write
abbrev pub Tears : ℕ → ℕ → Timeline (List ℕ) → Timeline (List ℕ) → Type 0
Tears at n old new = EachImage new (MayTear at n old)

-- each image now is one of before
abbrev pub IsCalm : {I : Type 0} → Timeline I → Timeline I → Type 0
IsCalm old new = EachImage new (IsImage old)

-- one call: what came before stays, and a crash inside the call leaves what one at its start or at
-- its end may leave
pub record Continues {I : Type 0} (old new : Timeline I) : Type 0 where
  pub later : old.moment ≤ new.moment
  pub past : (t : ℕ) (image : I) → t ≤ old.moment → new.left t image → old.left t image
  pub keeps : (t : ℕ) (image : I) → t ≤ old.moment → old.left t image → new.left t image
  pub during : (t : ℕ) (image : I) → old.moment < t → new.left t image → IsImage new image

-- time alone changes nothing: from the last moment on the images are those of now
pub record Rests {I : Type 0} (line : Timeline I) : Type 0 where
  pub stands : (t : ℕ) (image : I) → line.moment ≤ t → line.left t image → IsImage line image
  pub lasts : (t : ℕ) (image : I) → line.moment ≤ t → IsImage line image → line.left t image

-- the disk holds this file, tells it, and a crash leaves just that
pub record IsSure (disk : Meaning) (file : List ℕ) : Type 0 where
  pub held : disk.held ≡ Some file
  pub only : EachImage disk.line (λ image. image ≡ file)

-- a disk was told that it is that moment, and nothing else
pub record Waits (now : ℕ) (old new : Meaning) : Type 0 where
  pub moment : new.line.moment ≡ max old.line.moment now
  pub held : new.held ≡ old.held
  pub faults : new.faults ≡ old.faults
  pub left : (t : ℕ) (image : List ℕ) → new.line.left t image → old.line.left t image
  pub stays : (t : ℕ) (image : List ℕ) → old.line.left t image → new.line.left t image
