-- Numbers in decimal digits, of up to 19.
use Rattle.std.proofs.Common.{◌≡◌, ℕ, zero, suc, ◌≤◌, ◌<◌, ◌+◌, ◌-◌, ◌^◌, Bool, true, false, ◌&&◌, List, [], ◌∷◌, length, take, get_or, refl, ap, ◌∙◌, arith}
use Rattle.std.proofs.lemmas.List.{length-take-le}
use Rattle.std.proofs.lemmas.Str.Parse.{numerals_by_value, tells_all_ascii_digits, digits_value_short}
use Rattle.std.proofs.lemmas.Bool.{and_parts}
use Rattle.std.proofs.lemmas.Bool.Decides.{nat_tests}
use Rattle.std.specs.Char.{is_ascii_digit, digit_value}
use Rattle.std.specs.Str.{all_ascii_digits}
use Rattle.std.specs.Str.Parse.{digits_value}

pub digits_more : (bs : List ℕ) (i : ℕ) → i < length bs → all_ascii_digits (take i bs) ≡ true → is_ascii_digit (get_or bs i 0) ≡ true → all_ascii_digits (take (i + 1) bs) ≡ true
digits_more [] i within all digit = absurd (omega arith)
digits_more (b ∷ bs) zero within all digit = rw digit refl
digits_more (b ∷ bs) (suc i) within all digit =
    let parts = and_parts (is_ascii_digit b) (all_ascii_digits (take i bs)) all in
    let place : suc i + 1 ≡ suc (i + 1) = omega arith in
    let rest = digits_more bs i (omega arith) parts.1 digit in
    ap (λ k. all_ascii_digits (take k (b ∷ bs))) place ∙ ap (λ t. t && all_ascii_digits (take (i + 1) bs)) parts.0 ∙ rest

and-false : (b : Bool) → (b && false) ≡ false
and-false true = refl
and-false false = refl

pub digit_lacks : (bs : List ℕ) (i : ℕ) → i < length bs → is_ascii_digit (get_or bs i 0) ≡ false → all_ascii_digits bs ≡ false
digit_lacks [] i within lacks = absurd (omega arith)
digit_lacks (b ∷ bs) zero within lacks = rw lacks refl
digit_lacks (b ∷ bs) (suc i) within lacks = ap (λ t. is_ascii_digit b && t) (digit_lacks bs i (omega arith) lacks) ∙ and-false (is_ascii_digit b)

pub short : (bs : List ℕ) (i : ℕ) → i < length bs → length bs ≤ 19 → all_ascii_digits (take i bs) ≡ true → digits_value 10 (take i bs) < 10 ^ 18
short bs i within few all = digits_value_short (numerals_by_value (λ ds. all_ascii_digits ds ≡ true) tells_all_ascii_digits) (take i bs) 18 all (omega (arith, length-take-le i bs))

pub value_of_digit : (c : ℕ) → is_ascii_digit c ≡ true → digit_value c ≡ c - 48
value_of_digit c digit = grind (arith, nat_tests)
