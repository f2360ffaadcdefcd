-- The object that lists hashes that are needed.
use Rattle.std.specs.Prelude.{◌≡◌, ℕ, ◌+◌, ◌-◌, ◌/◌, List, [], ◌∷◌, ◌++◌, length, drop, if◌then◌else◌, nat_lt}
use Rattle.std.specs.Int.{w64, to_be_bytes}
use Rattle.ddc_names.specs.declared.hash.IoHash.{IoHash}

-- how many bytes follow the first in the shortest spelling of a number: seven bits a byte
unfoldable pub width : ℕ → ℕ
width n =
    if nat_lt n 0x80 then 0 else
    if nat_lt n 0x4000 then 1 else
    if nat_lt n 0x20_0000 then 2 else
    if nat_lt n 0x1000_0000 then 3 else
    if nat_lt n 0x8_0000_0000 then 4 else
    if nat_lt n 0x400_0000_0000 then 5 else
    if nat_lt n 0x2_0000_0000_0000 then 6 else
    if nat_lt n 0x100_0000_0000_0000 then 7 else 8

-- the first byte: as many leading 1 bits, and the number's highest bits
unfoldable pub lead : ℕ → ℕ
lead n =
    if nat_lt n 0x80 then n else
    if nat_lt n 0x4000 then 0x80 + n / 0x100 else
    if nat_lt n 0x20_0000 then 0xc0 + n / 0x1_0000 else
    if nat_lt n 0x1000_0000 then 0xe0 + n / 0x100_0000 else
    if nat_lt n 0x8_0000_0000 then 0xf0 + n / 0x1_0000_0000 else
    if nat_lt n 0x400_0000_0000 then 0xf8 + n / 0x100_0000_0000 else
    if nat_lt n 0x2_0000_0000_0000 then 0xfc + n / 0x1_0000_0000_0000 else
    if nat_lt n 0x100_0000_0000_0000 then 0xfe else 0xff

-- the shortest spelling of a number
unfoldable pub minimal : ℕ → List ℕ
minimal n = lead n ∷ drop (8 - width n) (to_be_bytes w64 n)

abbrev pub with_size : List ℕ → List ℕ
with_size bs = minimal (length bs) ++ bs

abbrev pub hash_bytes : List IoHash → List ℕ
hash_bytes [] = []
hash_bytes (h ∷ hs) = h.0 ++ hash_bytes hs

-- the field named needs: an empty Array, or a UniformArray of Hash (code 10)
abbrev pub needs_field : List IoHash → List ℕ
needs_field [] = 0x84 ∷ 5 ∷ 0x6e ∷ 0x65 ∷ 0x65 ∷ 0x64 ∷ 0x73 ∷ 1 ∷ 0 ∷ []
needs_field (h ∷ hs) = 0x85 ∷ 5 ∷ 0x6e ∷ 0x65 ∷ 0x65 ∷ 0x64 ∷ 0x73 ∷ with_size (minimal (length (h ∷ hs)) ++ 0x10 ∷ hash_bytes (h ∷ hs))

-- the object without a name of that field
abbrev pub needs_object : List IoHash → List ℕ
needs_object hs = 0x02 ∷ with_size (needs_field hs)

-- each is a hash of 20 bytes
abbrev pub AreHashes : List IoHash → Type 0
AreHashes [] = Unit {0}
AreHashes (h ∷ hs) = (length h.0 ≡ 20) × AreHashes hs
