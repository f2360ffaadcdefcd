use Rattle.std.proofs.Common.{sym}
use Rattle.ddc_names.specs.Texts.{name_fault}
use Rattle.ddc_names.proofs.Laws.{IsUtf8-name}
use Rattle.ddc_entry.proofs.Fields.{no_name}
use Rattle.ddc_entry.proofs.parts.namespace_of.Goals as goal

pub returns-in-Err : goal.returns-in-Err
returns-in-Err c = sym (no_name (name_fault c.args.text.now) c.args.text.now (λ named. (rw c.in-Err.is at c.from_utf8.ensures.cases).0 (IsUtf8-name _ named)))
