-- The texts of names, hashes and keys: which bytes may stand where, and how many.
use Rattle.std.specs.Prelude.{◌≡◌, ◌<◌, ℕ, ◌+◌, ◌-◌, ◌*◌, ◌==◌, Bool, true, false, ◌&&◌, ◌||◌, nat_le, nat_lt, if◌then◌else◌, List, [], ◌∷◌, ◌++◌, length, take, replicate, slice_index, Option, Some, None, unwrap_or}
use Rattle.std.specs.List.{AllPass, list_all}
use Rattle.std.specs.Char.{is_ascii_alphanumeric}
use Rattle.hex.specs.Hex.{hex_digit_value, is_hex_digit}

-- the least place at which a text breaks a rule: a byte that isn't allowed there, `most` where
-- there are more bytes, or the text's end where there are fewer than `least`.
-- The text's first byte stands at the place `at`
abbrev pub fault_from : (ℕ → ℕ → Bool) → ℕ → ℕ → ℕ → List ℕ → Option ℕ
fault_from allowed least most at [] = if nat_lt at least then Some at else None
fault_from allowed least most at (b ∷ rest) =
    if nat_lt at most && allowed at b then fault_from allowed least most (at + 1) rest else Some at

-- a letter, a digit, or one of `-`, `_` and `.`
abbrev pub is_name_byte : ℕ → Bool
is_name_byte b = is_ascii_alphanumeric b || (b == 45) || (b == 95) || (b == 46)

-- a name begins with a letter or a digit
abbrev pub is_name_byte_at : ℕ → ℕ → Bool
is_name_byte_at at b = if at == 0 then is_ascii_alphanumeric b else is_name_byte b

-- the least place at which a text is no name of 1 to 64 bytes
abbrev pub name_fault : List ℕ → Option ℕ
name_fault text = fault_from is_name_byte_at 1 64 0 text

-- the least place at which a text isn't 40 hexadecimal digits of either case
abbrev pub digits_fault : List ℕ → Option ℕ
digits_fault text = fault_from (λ at b. is_hex_digit b) 40 40 0 text

-- 1 to 64 letters, digits, `-`, `_` and `.`, and the first is a letter or a digit
abbrev pub is_name : List ℕ → Bool
is_name text = nat_le 1 (length text) && nat_le (length text) 64 && is_ascii_alphanumeric (slice_index text 0) && list_all is_name_byte text

-- 40 hexadecimal digits of either case
abbrev pub AreDigits : List ℕ → Type 0
AreDigits text = (length text ≡ 40) × AllPass is_hex_digit text

-- a text has a byte at this place, before `most`, and the byte may stand there
abbrev pub HasAllowed : (ℕ → ℕ → Bool) → ℕ → List ℕ → ℕ → Type 0
HasAllowed allowed most text at = (at < length text) × (at < most) × (allowed at (slice_index text at) ≡ true)

-- the least place at which a text has no byte that may stand there
pub record IsLeastFault (allowed : ℕ → ℕ → Bool) (most : ℕ) (text : List ℕ) (at : ℕ) : Type 0 where
  pub before : (i : ℕ) → i < at → HasAllowed allowed most text i
  pub here : ¬ (HasAllowed allowed most text at)

-- a text is no name, and this is the least place at which it breaks the rule
abbrev pub BreaksName : List ℕ → ℕ → Type 0
BreaksName text at = (is_name text ≡ false) × IsLeastFault is_name_byte_at 64 text at

-- the same of 40 hexadecimal digits
abbrev pub BreaksDigits : List ℕ → ℕ → Type 0
BreaksDigits text at = (¬ (AreDigits text)) × IsLeastFault (λ at b. is_hex_digit b) 40 text at

-- the number that a hexadecimal digit of either case stands for
abbrev pub digit_of : ℕ → ℕ
digit_of c = unwrap_or (hex_digit_value c) 0

-- the bytes that pairs of hexadecimal digits spell, the high four bits first
abbrev pub bytes_of : List ℕ → List ℕ
bytes_of [] = []
bytes_of (high ∷ []) = []
bytes_of (high ∷ low ∷ rest) = (digit_of high * 16 + digit_of low) ∷ bytes_of rest

-- a text with zeros after it, 64 bytes in all
abbrev pub in_64_bytes : List ℕ → List ℕ
in_64_bytes text = text ++ replicate {A = ℕ} (64 - length text) 0

-- the first `len` of 64 bytes are a name, and zeros stand after it
pub record IsNamed (bytes : List ℕ) (len : ℕ) : Type 0 where
  pub named : name_fault (take len bytes) ≡ None
  pub zeros : bytes ≡ in_64_bytes (take len bytes)
  pub counted : len ≡ length (take len bytes)
