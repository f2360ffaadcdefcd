use Rattle.std.proofs.Common.{◌≡◌, ◌≤◌, drop}
use Rattle.hex.specs.Hex.{is_hex_digit}
use Rattle.ddc_names.specs.Texts.{fault_from, digits_fault}
use Rattle.ddc_names.proofs.reference.find_fault.Given as goal

abbrev pub invariant-loop-at : goal.invariant-loop-at
invariant-loop-at l = record {
  within : l.at ≤ 40;
  rest : digits_fault l.text ≡ fault_from (λ at b. is_hex_digit b) 40 40 l.at (drop l.at l.text);
}
