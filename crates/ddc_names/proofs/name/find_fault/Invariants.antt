use Rattle.std.proofs.Common.{◌≡◌, ◌≤◌, drop}
use Rattle.ddc_names.specs.Texts.{fault_from, is_name_byte_at, name_fault}
use Rattle.ddc_names.proofs.name.find_fault.Given as goal

abbrev pub invariant-loop-at : goal.invariant-loop-at
invariant-loop-at l = record {
  within : l.at ≤ 64;
  rest : name_fault l.text ≡ fault_from is_name_byte_at 1 64 l.at (drop l.at l.text);
}
