use Rattle.std.proofs.Common.{sym, ap, ◌∙◌}
use Rattle.ddc_names.specs.Texts.{digits_fault}
use Rattle.ddc_names.proofs.Laws.{digits_fault-none, breaks_digits, digits_fault-decoded, digits_fault-refused, key_of-decoded}
use Rattle.ddc_names.proofs.reference.RefKey.parse.Goals as goal

pub unreachable-requires : goal.unreachable-requires
unreachable-requires c =
    digits_fault-refused c.args.text.now _ (sym c.from_hex.ensures ∙ c.in-Err.is)
    (ap digits_fault (sym c.as_bytes.ensures.value) ∙ sym c.find_fault.ensures ∙ c.in_default.is)

pub returns-clause-read : goal.returns-clause-read
returns-clause-read c = sym (key_of-decoded c.args.text.now _ (sym c.from_hex.ensures ∙ c.in-Ok.is))

pub returns-clause-key : goal.returns-clause-key
returns-clause-key c = (digits_fault-decoded c.args.text.now _ (sym c.from_hex.ensures ∙ c.in-Ok.is)).1

pub returns-in-Some-clause-fault : goal.returns-in-Some-clause-fault
returns-in-Some-clause-fault c = breaks_digits c.args.text.now _ (ap digits_fault (sym c.as_bytes.ensures.value) ∙ sym c.find_fault.ensures ∙ c.in-Some.is)

pub returns-clause-digits : goal.returns-clause-digits
returns-clause-digits c = (digits_fault-none c.args.text.now).0 (ap digits_fault (sym c.as_bytes.ensures.value) ∙ sym c.find_fault.ensures ∙ c.in_default.is)
