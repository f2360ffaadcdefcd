-- What stands at the front of the bytes that are left of a container, as it is computed.
use Rattle.std.specs.Prelude.{◌≡◌, ℕ, ◌+◌, ◌-◌, ◌%◌, ◌<◌, ◌≤◌, ◌==◌, List, [], ◌∷◌, length, take, drop, Option, Some, None, if◌then◌else◌, nat_lt}
use Rattle.cb_fields.specs.Varuint.{varuint_at}
use Rattle.cb_fields.specs.declared.shape.Shape.{Shape}
use Rattle.cb_fields.specs.declared.shape.Shape.TheVariants.{Refused, Fixed, Attachment, Number, Sized, Fields, UniformFields, Array, UniformArray}
use Rattle.cb_fields.specs.declared.header.Contents.{Contents}
use Rattle.cb_fields.specs.declared.header.Header.{Header}
use Rattle.cb_fields.specs.declared.header.Header.TheVariants.{End, Bad, Plain, Link, Container}
use Rattle.cb_fields.specs.Shape.{shape, is_allowed, any_fields, no_fields, counted, rests, may_end, is_full}

-- a size and that many bytes: how many bytes spell the size, and the size
abbrev pub sized_by : List ℕ → Option (ℕ × ℕ) → Option (ℕ × ℕ)
sized_by bs None = None
sized_by bs (Some found) = if nat_lt (length bs - found.1) found.0 then None else Some (found.1, found.0)

unfoldable pub sized : List ℕ → Option (ℕ × ℕ)
sized bs = sized_by bs (varuint_at bs)

-- how many bytes it has before a container's contents, or all of it
abbrev pub begin : Header → ℕ
begin (Plain n) = n
begin (Link kind n) = n
begin (Container before size contents) = before
begin other = 0

-- how many bytes it takes
abbrev pub extent : Header → ℕ
extent (Plain n) = n
extent (Link kind n) = n
extent (Container before size contents) = before + size
extent other = 0

-- in n bytes it takes some, and a link has its hash
abbrev pub Moves : ℕ → Header → Type 0
Moves n End = n ≡ 0
Moves n Bad = Unit {0}
Moves n (Plain k) = (0 < k) × (k ≤ n)
Moves n (Link kind k) = (20 ≤ k) × (k ≤ n)
Moves n (Container before size contents) = (0 < before) × (before + size ≤ n)

-- a link has its hash
abbrev pub HasLinkHash : Header → Type 0
HasLinkHash (Link kind k) = 20 ≤ k
HasLinkHash other = Unit {0}

-- the same after k more bytes
abbrev pub shifted : ℕ → Header → Header
shifted k End = Bad
shifted k Bad = Bad
shifted k (Plain n) = Plain (k + n)
shifted k (Link kind n) = Link kind (k + n)
shifted k (Container before size contents) = Container (k + before) size contents

-- the inside of a uniform container, after its count
unfoldable pub uniform_inside : Option ℕ → List ℕ → Header
uniform_inside count [] = if may_end count then Container 0 0 no_fields else Bad
uniform_inside count (t ∷ bs) = if is_allowed t then Container 1 (length bs) (rests t count) else Bad

abbrev pub counted_by : List ℕ → Option (ℕ × ℕ) → Header
counted_by bs None = Bad
counted_by bs (Some count) = Container count.1 (length bs - count.1) (counted count.0)

abbrev pub uniform_counted_by : List ℕ → Option (ℕ × ℕ) → Header
uniform_counted_by bs None = Bad
uniform_counted_by bs (Some count) = shifted count.1 (uniform_inside (Some count.0) (drop count.1 bs))

-- the bytes that a container's size counts
unfoldable pub inside : Shape → List ℕ → Header
inside Fields bs = Container 0 (length bs) any_fields
inside UniformFields bs = uniform_inside None bs
inside Array bs = counted_by bs (varuint_at bs)
inside UniformArray bs = uniform_counted_by bs (varuint_at bs)
inside other bs = Bad

abbrev pub number_header : Option (ℕ × ℕ) → Header
number_header None = Bad
number_header (Some found) = Plain found.1

abbrev pub sized_header : Option (ℕ × ℕ) → Header
sized_header None = Bad
sized_header (Some s) = Plain (s.0 + s.1)

abbrev pub container_header : Shape → List ℕ → Option (ℕ × ℕ) → Header
container_header shape bs None = Bad
container_header shape bs (Some s) = shifted s.0 (inside shape (take s.1 (drop s.0 bs)))

unfoldable pub payload : Shape → List ℕ → Header
payload Refused bs = Bad
payload (Fixed n) bs = if nat_lt (length bs) n then Bad else Plain n
payload (Attachment kind) bs = if nat_lt (length bs) 20 then Bad else Link kind 20
payload Number bs = number_header (varuint_at bs)
payload Sized bs = sized_header (sized bs)
payload other bs = container_header other bs (sized bs)

-- how many bytes the name takes, with its length
abbrev pub name_by : Option (ℕ × ℕ) → Option ℕ
name_by None = None
name_by (Some s) = Some (s.0 + s.1)

unfoldable pub name_length : ℕ → List ℕ → Option ℕ
name_length t bs = if nat_lt t 0x80 then Some 0 else name_by (sized bs)

abbrev pub rest_by : ℕ → List ℕ → Option ℕ → Header
rest_by t bs None = Bad
rest_by t bs (Some k) = shifted k (payload (shape (t % 0x80)) (drop k bs))

-- the name and the payload of the type byte t
unfoldable pub rest_header : ℕ → List ℕ → Header
rest_header t bs = rest_by t bs (name_length t bs)

-- a field of no bytes is none
unfoldable pub lasting : Header → Header
lasting h = if begin h == 0 then Bad else h

abbrev pub field_header : Option ℕ → List ℕ → Header
field_header (Some t) bs = lasting (rest_header t bs)
field_header None [] = Bad
field_header None (t ∷ bs) = shifted 1 (rest_header t bs)

unfoldable pub next_header : Contents → List ℕ → Header
next_header contents [] = if may_end contents.count then End else Bad
next_header contents (b ∷ bs) = if is_full contents.count then Bad else field_header contents.type_byte (b ∷ bs)
