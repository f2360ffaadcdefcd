-- The place of the first fault of bytes that are no object, as they are read from left to right.
use Rattle.std.specs.Prelude.{◌≡◌, ℕ, ◌+◌, ◌%◌, ◌<◌, Bool, true, false, Option, List, [], ◌++◌, length}
use Rattle.cb_fields.specs.declared.links.Link.{Link}
use Rattle.cb_fields.specs.declared.header.Contents.{Contents}
use Rattle.cb_fields.specs.Shape.{shape, counted, may_end, is_full, fewer}
use Rattle.cb_fields.specs.Language.{IsStart, IsPlain, Opens, Field, Spells, starts_object}

-- a field's own header stands at the front: all of a plain field, or what comes before a container's contents with as many bytes after it as the size counts
pub data HasHeader : Option ℕ → List ℕ → Type 0 where
  plain_field : {type_byte : Option ℕ} {t : ℕ} {links : List Link} (start p others : List ℕ) → IsStart type_byte t start → IsPlain (shape (t % 0x80)) p links
      → HasHeader type_byte (start ++ (p ++ others))
  container_field : {type_byte : Option ℕ} {t : ℕ} {contents : Contents} (start front xs others : List ℕ) → IsStart type_byte t start
      → Opens (shape (t % 0x80)) front xs contents → HasHeader type_byte (start ++ (front ++ (xs ++ others)))

-- where the bytes of a container, which are to be contents, first break the rules
pub data FirstFault : Contents → List ℕ → ℕ → Type 0 where
  -- at a field whose own header doesn't stand there: its type byte is refused, or a part of it doesn't fit in the bytes
  bad_header : {contents : Contents} {bytes : List ℕ} → is_full contents.count ≡ false → 0 < length bytes → (HasHeader contents.type_byte bytes → ⊥)
      → FirstFault contents bytes 0
  -- inside a field that is a container
  inside : {outer inner : Contents} {t at : ℕ} (start front xs others : List ℕ) → is_full outer.count ≡ false → IsStart outer.type_byte t start
      → Opens (shape (t % 0x80)) front xs inner → FirstFault inner xs at → FirstFault outer (start ++ (front ++ (xs ++ others))) (length start + (length front + at))
  -- after a field that keeps the rules
  further : {contents : Contents} {at : ℕ} (f fs : List ℕ) (links : List Link) → is_full contents.count ≡ false → Spells (Field contents.type_byte) f links
      → FirstFault (fewer contents) fs at → FirstFault contents (f ++ fs) (length f + at)
  -- at the end, where fields are missing
  missing : {contents : Contents} → may_end contents.count ≡ false → FirstFault contents [] 0
  -- at the first byte after the last field
  left_over : {contents : Contents} {bytes : List ℕ} → is_full contents.count ≡ true → 0 < length bytes → FirstFault contents bytes 0

-- the fault of bytes whose first field's code is, or isn't, an object's
abbrev pub FaultIf : Bool → List ℕ → ℕ → Type 0
FaultIf true bytes at = FirstFault (counted 1) bytes at
FaultIf false bytes at = at ≡ 0

abbrev pub FaultAt : List ℕ → ℕ → Type 0
FaultAt bytes at = FaultIf (starts_object bytes) bytes at
