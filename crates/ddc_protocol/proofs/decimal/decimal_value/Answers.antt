use Rattle.std.proofs.Common.{◌≡◌, ◌≤◌, true, false, arith, rules, slice_index_or}
use Rattle.std.proofs.lemmas.Bool.Decides.{nat_tests}
use Rattle.std.proofs.lemmas.Int.Digits.{digits_value_more}
use Rattle.std.specs.Char.{is_ascii_digit}
use Rattle.ddc_protocol.proofs.Decimals.{digits_more, digit_lacks, short, value_of_digit}
use Rattle.ddc_protocol.proofs.decimal.decimal_value.Goals as goal

pub returns-then-not-is_ascii_digit : goal.returns-then-not-is_ascii_digit
returns-then-not-is_ascii_digit c =
    let off : is_ascii_digit (slice_index_or c.args.text.now c.loop-digit.digit-index 0) ≡ false = search rules in
    let lacks = digit_lacks c.args.text.now c.loop-digit.digit-index (omega arith) off in
    grind (arith, nat_tests, lacks)

pub overflow_mul-value : goal.overflow_mul-value
overflow_mul-value c =
    let small = short c.args.text.now c.loop-digit.digit-index (omega arith) (omega arith) c.loop-digit.invariant.digits in
    let is = c.loop-digit.invariant.value in
    omega arith

pub overflow_add-value : goal.overflow_add-value
overflow_add-value c =
    let small = short c.args.text.now c.loop-digit.digit-index (omega arith) (omega arith) c.loop-digit.invariant.digits in
    let is = c.loop-digit.invariant.value in
    let on : is_ascii_digit (slice_index_or c.args.text.now c.loop-digit.digit-index 0) ≡ true = search rules in
    let digit : slice_index_or c.args.text.now c.loop-digit.digit-index 0 ≤ 57 = grind (arith, nat_tests) in
    omega arith

pub loop-digit-preserved : goal.loop-digit-preserved
loop-digit-preserved c =
    let on : is_ascii_digit (slice_index_or c.args.text.now c.loop-digit.digit-index 0) ≡ true = search rules in
    let digit = value_of_digit (slice_index_or c.args.text.now c.loop-digit.digit-index 0) on in
    let is = c.loop-digit.invariant.value in
    record {
      digits = digits_more c.args.text.now c.loop-digit.digit-index (omega arith) c.loop-digit.invariant.digits on;
      value = rw (digits_value_more 10 c.args.text.now c.loop-digit.digit-index (omega arith)) (cc);
    }
