use Rattle.std.proofs.Common.{sym}
use Rattle.ddc_http.proofs.Targets.{no_name}
use Rattle.ddc_http.proofs.head_form.space_of.Goals as goal

pub returns-in-Err : goal.returns-in-Err
returns-in-Err c = sym (no_name c.args.text.now c.in-Err.ensures.cases.0)
