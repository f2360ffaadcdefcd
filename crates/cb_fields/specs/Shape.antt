-- The codes of fields, and what their payloads are made of.
use Rattle.std.specs.Prelude.{ℕ, ◌-◌, ◌%◌, Bool, true, false, ◌||◌, ◌==◌, Option, Some, None, if◌then◌else◌}
use Rattle.cb_fields.specs.declared.links.LinkKind.TheVariants.{Object, Binary}
use Rattle.cb_fields.specs.declared.shape.Shape.{Shape}
use Rattle.cb_fields.specs.declared.shape.Shape.TheVariants.{Refused, Fixed, Attachment, Number, Sized, Fields, UniformFields, Array, UniformArray}
use Rattle.cb_fields.specs.declared.header.Contents.{Contents}

-- the payload of a code (a type byte without flag 80; from 40 on it has flag 40, which is never stored)
unfoldable pub shape : ℕ → Shape
shape code =
    if code == 0x02 then Fields else
    if code == 0x03 then UniformFields else
    if code == 0x04 then Array else
    if code == 0x05 then UniformArray else
    if code == 0x06 then Sized else
    if code == 0x07 then Sized else
    if code == 0x1e then Sized else
    if code == 0x1f then Sized else
    if code == 0x08 then Number else
    if code == 0x09 then Number else
    if code == 0x0e then Attachment Object else
    if code == 0x0f then Attachment Binary else
    if code == 0x01 then Fixed 0 else
    if code == 0x0c then Fixed 0 else
    if code == 0x0d then Fixed 0 else
    if code == 0x0a then Fixed 4 else
    if code == 0x0b then Fixed 8 else
    if code == 0x12 then Fixed 8 else
    if code == 0x13 then Fixed 8 else
    if code == 0x10 then Fixed 20 else
    if code == 0x11 then Fixed 16 else
    if code == 0x14 then Fixed 12 else Refused

abbrev pub is_known : Shape → Bool
is_known Refused = false
is_known other = true

-- may stand as a type byte
unfoldable pub is_allowed : ℕ → Bool
is_allowed t = is_known (shape (t % 0x80))

-- an empty payload without a name: a field of a uniform container of this type byte has no bytes
abbrev pub is_void : ℕ → Bool
is_void t = (t == 0x01) || ((t == 0x0c) || (t == 0x0d))

-- what a container holds: any fields, or nothing
abbrev pub any_fields : Contents
any_fields = record { type_byte = None; count = None }

abbrev pub no_fields : Contents
no_fields = record { type_byte = None; count = Some 0 }

-- so many fields with a type byte each
abbrev pub counted : ℕ → Contents
counted n = record { type_byte = None; count = Some n }

-- fields of the one type byte t without it; where such fields have no bytes, nothing, whatever their count
unfoldable pub rests : ℕ → Option ℕ → Contents
rests t count = if is_void t then no_fields else record { type_byte = Some t; count = count }

-- may end here
abbrev pub may_end : Option ℕ → Bool
may_end None = true
may_end (Some n) = n == 0

-- may hold no more
abbrev pub is_full : Option ℕ → Bool
is_full None = false
is_full (Some n) = n == 0

abbrev pub one_less : Option ℕ → Option ℕ
one_less None = None
one_less (Some n) = Some (n - 1)

-- what may still stand in it after one field
abbrev pub fewer : Contents → Contents
fewer contents = record contents { count = one_less contents.count }
