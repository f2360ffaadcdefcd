use Rattle.std.proofs.Common.{sym, ap, ◌∙◌}
use Rattle.ddc_names.specs.Texts.{name_fault}
use Rattle.ddc_names.proofs.Laws.{length-name, name_fault-none, breaks_name}
use Rattle.ddc_names.proofs.name.Name.parse.Goals as goal

pub pad-requires : goal.pad-requires
pad-requires c = length-name _ (sym c.find_fault.ensures ∙ c.in_default.is)

pub returns-in-Some-clause-fault : goal.returns-in-Some-clause-fault
returns-in-Some-clause-fault c = breaks_name c.args.text.now _ (ap name_fault (sym c.as_bytes-text.ensures.value) ∙ sym c.find_fault.ensures ∙ c.in-Some.is)

pub returns-clause-named : goal.returns-clause-named
returns-clause-named c = (name_fault-none c.args.text.now).0 (ap name_fault (sym c.as_bytes-text.ensures.value) ∙ sym c.find_fault.ensures ∙ c.in_default.is)
