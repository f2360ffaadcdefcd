-- The names, keys and hashes in a target are text.
use Rattle.std.proofs.Common.{◌≡◌, ℕ, ◌<◌, true, List, [], ◌∷◌, refl, arith, Option, Some, None}
use Rattle.std.specs.Prelude.{IsUtf8, IsAscii}
use Rattle.std.specs.List.{AllPass}
use Rattle.std.specs.Result.{result_ok}
use Rattle.std.proofs.lemmas.Bool.Decides.{nat_tests}
use Rattle.std.proofs.lemmas.List.Elements.{All-head, All-tail}
use Rattle.std.proofs.lemmas.Str.{IsUtf8-from_ascii}
use Rattle.std.proofs.lemmas.Str.Ascii.{IsAscii-nil, IsAscii-cons}
use Rattle.hex.specs.Hex.{is_hex_digit}
use Rattle.ddc_names.specs.Texts.{name_fault, digits_fault, bytes_of}
use Rattle.ddc_names.specs.Names.{checked, name_of, key_of, hash_of}
use Rattle.ddc_names.proofs.Laws.{IsUtf8-name, digits_fault-none}

-- a text with no fault spells the value, and another spells none
spells_none : {A : Type 0} (fault : Option ℕ) (value : A) → (fault ≡ None → ⊥) → result_ok (checked fault value) ≡ None
spells_none None value h = absurd (h refl)
spells_none (Some at) value h = refl

pub no_name : (text : List ℕ) → ¬ (IsUtf8 text) → result_ok (name_of text) ≡ None
no_name text h = spells_none (name_fault text) text (λ none. h (IsUtf8-name text none))

abbrev IsDigit : ℕ → Type 0
IsDigit b = is_hex_digit b ≡ true

digit_ascii : (b : ℕ) → is_hex_digit b ≡ true → b < 128
digit_ascii b h = grind (arith, nat_tests)

digits_ascii : (text : List ℕ) → AllPass is_hex_digit text → IsAscii text
digits_ascii [] h = IsAscii-nil
digits_ascii (b ∷ text) h = IsAscii-cons b text (digit_ascii b (All-head IsDigit b text h)) (digits_ascii text (All-tail IsDigit b text h))

digits_utf8 : (text : List ℕ) → digits_fault text ≡ None → IsUtf8 text
digits_utf8 text none = IsUtf8-from_ascii text (digits_ascii text ((digits_fault-none text).0 none).1)

pub no_key : (text : List ℕ) → ¬ (IsUtf8 text) → result_ok (key_of text) ≡ None
no_key text h = spells_none (digits_fault text) (record { 0 = bytes_of text }) (λ none. h (digits_utf8 text none))

pub no_hash : (text : List ℕ) → ¬ (IsUtf8 text) → hash_of text ≡ None
no_hash text h = spells_none (digits_fault text) (record { 0 = bytes_of text }) (λ none. h (digits_utf8 text none))
