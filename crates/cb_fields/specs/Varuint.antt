-- Numbers of one to nine bytes (VarUInt).
use Rattle.std.specs.Prelude.{◌≡◌, ℕ, ◌+◌, ◌-◌, ◌*◌, List, [], ◌∷◌, length, take, Option, Some, None, if◌then◌else◌, nat_lt}

-- how many bytes follow the first: as many as it has leading 1 bits
unfoldable pub followers : ℕ → ℕ
followers b =
    if nat_lt b 0x80 then 0 else
    if nat_lt b 0xc0 then 1 else
    if nat_lt b 0xe0 then 2 else
    if nat_lt b 0xf0 then 3 else
    if nat_lt b 0xf8 then 4 else
    if nat_lt b 0xfc then 5 else
    if nat_lt b 0xfe then 6 else
    if nat_lt b 0xff then 7 else 8

-- the value of those leading bits in the first byte
unfoldable pub marked : ℕ → ℕ
marked b =
    if nat_lt b 0x80 then 0 else
    if nat_lt b 0xc0 then 0x80 else
    if nat_lt b 0xe0 then 0xc0 else
    if nat_lt b 0xf0 then 0xe0 else
    if nat_lt b 0xf8 then 0xf0 else
    if nat_lt b 0xfc then 0xf8 else
    if nat_lt b 0xfe then 0xfc else
    if nat_lt b 0xff then 0xfe else 0xff

-- the number whose front is n and whose other bytes, big-endian, are these
abbrev pub big_endian_from : ℕ → List ℕ → ℕ
big_endian_from n [] = n
big_endian_from n (b ∷ bs) = big_endian_from (n * 0x100 + b) bs

-- the bytes spell n: as many follow the first as it says, and its other bits and those bytes are n
abbrev pub IsVaruint : ℕ → List ℕ → Type 0
IsVaruint n [] = ⊥
IsVaruint n (b ∷ bs) = (length bs ≡ followers b) × (n ≡ big_endian_from (b - marked b) bs)

-- the number at the front and how many bytes spell it; none where the bytes end before it does
abbrev pub varuint_at : List ℕ → Option (ℕ × ℕ)
varuint_at [] = None
varuint_at (b ∷ bs) =
    if nat_lt (length bs) (followers b) then None else Some (big_endian_from (b - marked b) (take (followers b) bs), 1 + followers b)
