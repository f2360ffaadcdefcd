-- What the least faults of texts say.
use Rattle.std.proofs.Common.{◌≡◌, ◌≢◌, ℕ, ◌+◌, ◌*◌, ◌%◌, is_some, unwrap_or, ◌≤◌, ◌<◌, Bool, true, false, ◌&&◌, ◌==◌, nat_le, List, [], ◌∷◌, length, nat_lt, if◌then◌else◌, Option, Some, None, Result, Ok, Err, refl, sym, ap, ◌∙◌, arith, subst, ⊎_elim, inl, inr}
use Rattle.std.specs.Prelude.{◌↔◌, ◌⊎◌, zero, suc, IsUtf8, slice_index}
use Rattle.std.specs.List.{AllPass, list_all}
use Rattle.std.specs.Result.{result_ok}
use Rattle.std.specs.Char.{is_ascii_alphanumeric}
use Rattle.std.specs.Str.{IsAscii}
use Rattle.std.proofs.lemmas.Bool.{and_parts}
use Rattle.std.proofs.lemmas.Bool.Decides.{nat_tests}
use Rattle.std.proofs.lemmas.List.Elements.{All-cons, All-head, All-nil, All-tail}
use Rattle.std.proofs.lemmas.Str.{IsUtf8-from_ascii}
use Rattle.std.proofs.lemmas.Str.Ascii.{IsAscii-nil, IsAscii-cons}
use Rattle.hex.specs.Hex.{decode_pairs, decode_sized, digit_or_error, hex_digit_value, is_hex_digit, pair_value}
use Rattle.hex.specs.declared.error.FromHexError.{FromHexError}
use Rattle.hex.proofs.Pairs.{cons_byte, decode_pairs-ok_pair, decode_sized-pairs}
use Rattle.hex.proofs.HexLemmas.{IsOk-decode_sized, decode_sized-encode_lower}
use Rattle.ddc_names.specs.declared.hash.IoHash.{IoHash}
use Rattle.ddc_names.specs.declared.reference.RefKey.{RefKey}
use Rattle.ddc_names.specs.Texts.{fault_from, is_name, is_name_byte, is_name_byte_at, name_fault, digits_fault, digit_of, bytes_of, IsLeastFault, BreaksName, BreaksDigits}
use Rattle.ddc_names.specs.Names.{checked, hash_of, hash_text, key_of, key_text}

-- where a step leaves no fault, its test passed
step_none : (test : Bool) (rest : Option ℕ) (at : ℕ) → (if test then rest else Some at) ≡ None → (test ≡ true) × (rest ≡ None)
step_none true rest at h = (refl, h)
step_none false rest at h = cc

-- a byte that may stand in a name is ASCII
name_byte-ascii : (at b : ℕ) → is_name_byte_at at b ≡ true → b < 128
name_byte-ascii at b h = grind (arith, nat_tests)

-- what follows a place of a name is ASCII, and ends by place 64
pub rest_of_name : (at : ℕ) (text : List ℕ) → at ≤ 64 → fault_from is_name_byte_at 1 64 at text ≡ None → (at + length text ≤ 64) × IsAscii text
rest_of_name at [] within h = (omega arith, IsAscii-nil)
rest_of_name at (b ∷ rest) within h =
    let here = step_none (nat_lt at 64 && is_name_byte_at at b) (fault_from is_name_byte_at 1 64 (at + 1) rest) at h in
    let tests = and_parts (nat_lt at 64) (is_name_byte_at at b) here.0 in
    let later : at + 1 ≤ 64 = grind (arith, nat_tests) in
    let ih = rest_of_name (at + 1) rest later here.1 in
    (omega arith, IsAscii-cons b rest (name_byte-ascii at b tests.1) ih.1)

-- a name has at most 64 bytes
pub length-name : (text : List ℕ) → name_fault text ≡ None → length text ≤ 64
length-name text h = let within = (rest_of_name 0 text (omega arith) h).0 in omega arith

-- a name is text
pub IsUtf8-name : (text : List ℕ) → name_fault text ≡ None → IsUtf8 text
IsUtf8-name text h = IsUtf8-from_ascii text (rest_of_name 0 text (omega arith) h).1

-- after a name's first byte any byte of a name may stand
later_byte : (at b : ℕ) → 0 < at → is_name_byte_at at b ≡ is_name_byte b
later_byte at b later =
    let test : (at == 0) ≡ false = grind (arith, nat_tests) in
    rw test refl

-- what follows a place of a name is bytes of a name
rest_bytes : (at : ℕ) (text : List ℕ) → 0 < at → fault_from is_name_byte_at 1 64 at text ≡ None → list_all is_name_byte text ≡ true
rest_bytes at [] later h = refl
rest_bytes at (b ∷ rest) later h =
    let here = step_none (nat_lt at 64 && is_name_byte_at at b) (fault_from is_name_byte_at 1 64 (at + 1) rest) at h in
    let byte = sym (later_byte at b later) ∙ (and_parts (nat_lt at 64) (is_name_byte_at at b) here.0).1 in
    rw (byte, rest_bytes (at + 1) rest (omega arith) here.1) refl

-- bytes of a name that end by place 64 leave no fault
faultless_bytes : (at : ℕ) (text : List ℕ) → 0 < at → at + length text ≤ 64 → list_all is_name_byte text ≡ true → fault_from is_name_byte_at 1 64 at text ≡ None
faultless_bytes at [] later within h = grind (arith, nat_tests)
faultless_bytes at (b ∷ rest) later within h =
    let parts = and_parts (is_name_byte b) (list_all is_name_byte rest) h in
    let ih = faultless_bytes (at + 1) rest (omega arith) (omega arith) parts.1 in
    let room : nat_lt at 64 ≡ true = grind (arith, nat_tests) in
    let byte = later_byte at b later ∙ parts.0 in
    rw (room, byte) ih

-- a name's first byte
first_byte : (b : ℕ) → is_ascii_alphanumeric b ≡ true → is_name_byte b ≡ true
first_byte b h = rw h refl

-- the names are the texts without a fault
pub name_fault-none : (text : List ℕ) → (name_fault text ≡ None) ↔ (is_name text ≡ true)
name_fault-none [] = (λ h. cc, λ h. cc)
name_fault-none (b ∷ rest) = (
  λ h.
      let here = step_none (nat_lt 0 64 && is_ascii_alphanumeric b) (fault_from is_name_byte_at 1 64 (0 + 1) rest) 0 h in
      let byte = (and_parts (nat_lt 0 64) (is_ascii_alphanumeric b) here.0).1 in
      let within = length-name (b ∷ rest) h in
      let least : nat_le 1 (length (b ∷ rest)) ≡ true = grind (arith, nat_tests) in
      let most : nat_le (length (b ∷ rest)) 64 ≡ true = grind (arith, nat_tests) in
      let bytes = rest_bytes 1 rest (omega arith) here.1 in
      rw (least, most, byte, bytes) refl,
  λ h.
      let tests = and_parts (nat_le 1 (length (b ∷ rest)) && nat_le (length (b ∷ rest)) 64 && is_ascii_alphanumeric b) (is_name_byte b && list_all is_name_byte rest) h in
      let front = and_parts (nat_le 1 (length (b ∷ rest)) && nat_le (length (b ∷ rest)) 64) (is_ascii_alphanumeric b) tests.0 in
      let bytes = and_parts (is_name_byte b) (list_all is_name_byte rest) tests.1 in
      let most = (and_parts (nat_le 1 (length (b ∷ rest))) (nat_le (length (b ∷ rest)) 64) front.0).1 in
      let within : 1 + length rest ≤ 64 = grind (arith, nat_tests) in
      let ih = faultless_bytes 1 rest (omega arith) within bytes.1 in
      rw front.1 ih,
)

-- after a first place, a text has a byte that may stand there
abbrev Stands : (ℕ → ℕ → Bool) → ℕ → ℕ → List ℕ → ℕ → Type 0
Stands allowed most at text j = (j < length text) × (at + j < most) × (allowed (at + j) (slice_index text j) ≡ true)

module _ (allowed : ℕ → ℕ → Bool) (most at b : ℕ) (rest : List ℕ) where
  stands_first : (nat_lt at most && allowed at b) ≡ true → Stands allowed most at (b ∷ rest) 0
  stands_first h =
      let tests = and_parts (nat_lt at most) (allowed at b) h in
      let room : at < most = grind (arith, nat_tests) in
      (omega arith, omega (arith, room), subst (λ (m : ℕ). allowed m b ≡ true) (omega arith) tests.1)

  falls_first : (nat_lt at most && allowed at b) ≡ false → ¬ (Stands allowed most at (b ∷ rest) 0)
  falls_first h stands =
      let (long, room, is) = stands in
      let test : nat_lt at most ≡ true = grind (arith, nat_tests) in
      let byte : allowed at b ≡ true = subst (λ (m : ℕ). allowed m b ≡ true) (omega arith) is in
      let both : (nat_lt at most && allowed at b) ≡ true = rw (test, byte) refl in
      cc (h, both)

  stands_later : (k : ℕ) → Stands allowed most (at + 1) rest k → Stands allowed most at (b ∷ rest) (suc k)
  stands_later k stands =
      let (long, room, is) = stands in
      (omega (arith, long), omega (arith, room), subst (λ (m : ℕ). allowed m (slice_index rest k) ≡ true) (omega arith) is)

  stood_later : (k : ℕ) → Stands allowed most at (b ∷ rest) (suc k) → Stands allowed most (at + 1) rest k
  stood_later k stands =
      let (long, room, is) = stands in
      (omega (arith, long), omega (arith, room), subst (λ (m : ℕ). allowed m (slice_index rest k) ≡ true) (omega arith) is)

  before_later : (n : ℕ) → (nat_lt at most && allowed at b) ≡ true → ((j : ℕ) → j < n → Stands allowed most (at + 1) rest j) → (j : ℕ) → j < suc n → Stands allowed most at (b ∷ rest) j
  before_later n first before zero less = stands_first first
  before_later n first before (suc k) less = stands_later k (before k (omega (arith, less)))

-- where a scan finds a fault
ended : (test : Bool) (at p : ℕ) → (if test then Some at else None) ≡ Some p → p ≡ at
ended true at p h = cc h
ended false at p h = cc h

step_some : (test : Bool) (rest : Option ℕ) (at p : ℕ) → (if test then rest else Some at) ≡ Some p → ((test ≡ true) × (rest ≡ Some p)) ⊎ ((test ≡ false) × (p ≡ at))
step_some true rest at p h = inl (refl, h)
step_some false rest at p h = inr (refl, cc h)

-- a scan finds the least place without a byte that may stand there
fault_place : (allowed : ℕ → ℕ → Bool) (least most at : ℕ) (text : List ℕ) (p : ℕ) → fault_from allowed least most at text ≡ Some p
    → (n : ℕ) × (p ≡ at + n) × ((j : ℕ) → j < n → Stands allowed most at text j) × (¬ (Stands allowed most at text n))
fault_place allowed least most at [] p h =
    let end : p ≡ at = ended (nat_lt at least) at p h in
    (0, omega (arith, end), (λ j less. absurd (omega (arith, less))), (λ stands. absurd (omega (arith, stands.0))))
fault_place allowed least most at (b ∷ rest) p h =
    ⊎_elim
    (λ on.
    let (n, is, before, here) = fault_place allowed least most (at + 1) rest p on.1 in
    (suc n, omega (arith, is), before_later allowed most at b rest n on.0 before, (λ stands. here (stood_later allowed most at b rest n stands))))
    (λ off. (0, omega (arith, off.1), (λ j less. absurd (omega (arith, less))), falls_first allowed most at b rest off.0))
    (step_some (nat_lt at most && allowed at b) (fault_from allowed least most (at + 1) rest) at p h)

least_fault : (allowed : ℕ → ℕ → Bool) (least most : ℕ) (text : List ℕ) (p : ℕ) → fault_from allowed least most 0 text ≡ Some p → IsLeastFault allowed most text p
least_fault allowed least most text p h =
    let (n, is, before, here) = fault_place allowed least most 0 text p h in
    let to : (j : ℕ) → 0 + j ≡ j = λ j. omega arith in
    record {
      before = λ i less. subst (λ (m : ℕ). (i < length text) × (m < most) × (allowed m (slice_index text i) ≡ true)) (to i) (before i (omega (arith, is, less)));
      here = λ has. here (subst (λ (m : ℕ). (m < length text) × (0 + m < most) × (allowed (0 + m) (slice_index text m) ≡ true)) (is ∙ to n) (subst (λ (m : ℕ). (p < length text) × (m < most) × (allowed m (slice_index text p) ≡ true)) (sym (to p)) has));
    }

not_true : (b : Bool) → (b ≡ true → ⊥) → b ≡ false
not_true true never = absurd (never refl)
not_true false never = refl

-- a fault of a name says that it is none, and where
pub breaks_name : (text : List ℕ) (at : ℕ) → name_fault text ≡ Some at → BreaksName text at
breaks_name text at h =
    (not_true (is_name text) (λ is. let none = (name_fault-none text).1 is in cc (h, none)), least_fault is_name_byte_at 1 64 text at h)

pub name_by_scan : (text : List ℕ) → name_fault text ≡ None → is_name text ≡ true
name_by_scan text h = (name_fault-none text).0 h

-- the fact of `AllPass is_hex_digit`
abbrev IsDigit : ℕ → Type 0
IsDigit b = is_hex_digit b ≡ true

-- what follows a place of 40 digits without a fault is the other digits
rest_of_digits : (at : ℕ) (text : List ℕ) → at ≤ 40 → fault_from (λ at b. is_hex_digit b) 40 40 at text ≡ None → (at + length text ≡ 40) × AllPass is_hex_digit text
rest_of_digits at [] within h = (grind (arith, nat_tests), All-nil IsDigit)
rest_of_digits at (b ∷ rest) within h =
    let here = step_none (nat_lt at 40 && is_hex_digit b) (fault_from (λ at b. is_hex_digit b) 40 40 (at + 1) rest) at h in
    let tests = and_parts (nat_lt at 40) (is_hex_digit b) here.0 in
    let later : at + 1 ≤ 40 = grind (arith, nat_tests) in
    let ih = rest_of_digits (at + 1) rest later here.1 in
    (omega arith, All-cons IsDigit b rest tests.1 ih.1)

-- the other digits leave no fault
faultless_digits : (at : ℕ) (text : List ℕ) → at + length text ≡ 40 → AllPass is_hex_digit text → fault_from (λ at b. is_hex_digit b) 40 40 at text ≡ None
faultless_digits at [] len h = grind (arith, nat_tests)
faultless_digits at (b ∷ rest) len h =
    let here = All-head IsDigit b rest h in
    let ih = faultless_digits (at + 1) rest (omega arith) (All-tail IsDigit b rest h) in
    let test : nat_lt at 40 ≡ true = grind (arith, nat_tests) in
    rw (test, here) ih

-- 40 hexadecimal digits are what has no fault
pub digits_fault-none : (text : List ℕ) → (digits_fault text ≡ None) ↔ ((length text ≡ 40) × AllPass is_hex_digit text)
digits_fault-none text = (
  λ h. let parts = rest_of_digits 0 text (omega arith) h in (omega arith, parts.1),
  λ h. faultless_digits 0 text (omega arith) h.1,
)

-- a fault of 40 digits says that they aren't, and where
pub breaks_digits : (text : List ℕ) (at : ℕ) → digits_fault text ≡ Some at → BreaksDigits text at
breaks_digits text at h =
    ((λ digits. let none = (digits_fault-none text).1 digits in cc (h, none)), least_fault (λ at b. is_hex_digit b) 40 40 text at h)

-- the value of a digit
digit_value : (c i : ℕ) (o : Option ℕ) → is_some o ≡ true → digit_or_error c i o ≡ Ok (unwrap_or o 0)
digit_value c i (Some v) h = refl
digit_value c i None h = cc

-- pairs of digits decode to the bytes that they spell
decode_pairs-digits : (i : ℕ) (text : List ℕ) → length text % 2 ≡ 0 → AllPass is_hex_digit text → decode_pairs i text ≡ Ok (bytes_of text)
unfolding decode_pairs
decode_pairs-digits i [] even h = refl
decode_pairs-digits i (a ∷ []) even h = absurd (omega arith)
decode_pairs-digits i (a ∷ b ∷ rest) even h =
    let tail = All-tail IsDigit a (b ∷ rest) h in
    let high = digit_value a i (hex_digit_value a) (All-head IsDigit a (b ∷ rest) h) in
    let low = digit_value b (i + 1) (hex_digit_value b) (All-head IsDigit b rest tail) in
    let pair : pair_value a b i ≡ Ok (digit_of a * 16 + digit_of b) = rw (high, low) refl in
    let ih = decode_pairs-digits (i + 2) rest (omega arith) (All-tail IsDigit b rest tail) in
    decode_pairs-ok_pair i a b _ rest pair ∙ ap (cons_byte (digit_of a * 16 + digit_of b)) ih

-- what has no fault decodes to the bytes that it spells
pub decode_sized-digits : (text : List ℕ) → digits_fault text ≡ None → decode_sized text 20 ≡ Ok (bytes_of text)
decode_sized-digits text h =
    let digits = (digits_fault-none text).0 h in
    decode_sized-pairs text 20 (omega (arith, digits.0)) (omega (arith, digits.0)) ∙ decode_pairs-digits 0 text (omega (arith, digits.0)) digits.1

-- what decodes has no fault
pub digits_fault-decoded : (text bytes : List ℕ) → decode_sized text 20 ≡ Ok bytes → (digits_fault text ≡ None) × (bytes ≡ bytes_of text)
digits_fault-decoded text bytes h =
    let none = (digits_fault-none text).1 ((IsOk-decode_sized text 20).0 (rw h refl)) in
    (none, decoded_same bytes (bytes_of text) (sym h ∙ decode_sized-digits text none))
  where
    decoded_same : (a b : List ℕ) → ◌≡◌ {A = Result (List ℕ) FromHexError} (Ok a) (Ok b) → a ≡ b
    decoded_same a b e = cc

-- a text that does not decode has a fault
pub digits_fault-refused : (text : List ℕ) (e : FromHexError) → decode_sized text 20 ≡ Err e → digits_fault text ≢ None
digits_fault-refused text e h none = let decoded = decode_sized-digits text none in cc

-- a text with a fault spells nothing
unspelled : {A : Type 0} (fault : Option ℕ) (value : A) → fault ≢ None → result_ok (checked fault value) ≡ None
unspelled None value h = absurd (h refl)
unspelled (Some at) value h = refl

-- a text that decodes is a hash
pub hash_of-decoded : (text bytes : List ℕ) → decode_sized text 20 ≡ Ok bytes → hash_of text ≡ Some (record { 0 = bytes })
hash_of-decoded text bytes h =
    let parts = digits_fault-decoded text bytes h in
    rw (parts.0, parts.1) refl

-- a text that does not decode is no hash
pub hash_of-refused : (text : List ℕ) (e : FromHexError) → decode_sized text 20 ≡ Err e → hash_of text ≡ None
hash_of-refused text e h = unspelled (digits_fault text) (record { 0 = bytes_of text }) (digits_fault-refused text e h)

-- a text that decodes is a key
pub key_of-decoded : (text bytes : List ℕ) → decode_sized text 20 ≡ Ok bytes → key_of text ≡ Ok (record { 0 = bytes })
key_of-decoded text bytes h =
    let parts = digits_fault-decoded text bytes h in
    rw (parts.0, parts.1) refl

-- reading the text of a hash gives the hash back
pub hash_of-hash_text : (hash : IoHash) → length hash.0 ≡ 20 → ((i : ℕ) → slice_index hash.0 i < 256) → hash_of (hash_text hash) ≡ Some hash
hash_of-hash_text hash len bytes = hash_of-decoded (hash_text hash) hash.0 (decode_sized-encode_lower hash.0 20 len bytes)

-- reading the text of a key gives the key back
pub key_of-key_text : (key : RefKey) → length key.0 ≡ 20 → ((i : ℕ) → slice_index key.0 i < 256) → key_of (key_text key) ≡ Ok key
key_of-key_text key len bytes = key_of-decoded (key_text key) key.0 (decode_sized-encode_lower key.0 20 len bytes)
