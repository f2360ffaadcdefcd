use Rattle.std.proofs.Common.{rules}
use Rattle.serde_json.proofs.OnLiterals.{serde_json_on_literals}
use Rattle.ddc_http.proofs.reply.not_object_text.Goals as goal

pub returns : goal.returns
unfolding serde_json_on_literals
returns c = search rules
