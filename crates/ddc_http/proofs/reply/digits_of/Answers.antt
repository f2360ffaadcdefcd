use Rattle.std.proofs.Common.{◌≡◌, ◌<◌, ◌/◌, ◌%◌, ℕ, zero, suc, List, [], ◌∷◌, map, length, get_or, slice_index, refl, sym, ap, ◌∙◌, arith}
use Rattle.std.proofs.lemmas.Result.{IfOk-weaker}
use Rattle.hex.specs.Hex.{encode_lower, encode_with, lower_digits}
use Rattle.json.specs.Print.{escape, escape_byte}
use Rattle.ddc_http.proofs.reply.digits_of.Goals as goal

-- where each digit of a table is written as it is, so is the one at a place
digit_at : (digits : List ℕ) (k : ℕ) → map escape_byte digits ≡ map (λ d. d ∷ []) digits → k < length digits → escape_byte (slice_index digits k) ≡ slice_index digits k ∷ []
digit_at [] k e h = absurd (omega arith)
digit_at (d ∷ digits) zero e h = cc
digit_at (d ∷ digits) (suc k) e h = digit_at digits k (cc) (omega arith)

lower_digit : (k : ℕ) → k < 16 → escape_byte (slice_index lower_digits k) ≡ slice_index lower_digits k ∷ []
unfolding escape_byte
lower_digit k h = digit_at lower_digits k refl h

escape-encode_lower : (bytes : List ℕ) → ((i : ℕ) → get_or bytes i 0 < 256) → escape (encode_lower bytes) ≡ encode_lower bytes
unfolding encode_with
escape-encode_lower [] h = refl
escape-encode_lower (b ∷ bytes) h =
    let small : b < 256 = h zero in
    rw (lower_digit (b / 16) (omega arith), lower_digit (b % 16) (omega arith), escape-encode_lower bytes (λ i. h (suc i))) refl

pub returns-clause-plain : goal.returns-clause-plain
returns-clause-plain c =
    let same = escape-encode_lower c.args.hash.now (λ i. omega (arith, c.type_inv.hash i)) in
    IfOk-weaker c.encode.result _ _ (λ text digits. ap escape digits ∙ same ∙ sym digits) c.encode.ensures
