use Rattle.std.proofs.Common.{sym}
use Rattle.ddc_http.proofs.Targets.{no_key}
use Rattle.ddc_http.proofs.head_form.key_of.Goals as goal

pub returns-in-Err : goal.returns-in-Err
returns-in-Err c = sym (no_key c.args.text.now c.in-Err.ensures.cases.0)
