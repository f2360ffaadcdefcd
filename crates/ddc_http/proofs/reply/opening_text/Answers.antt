use Rattle.std.proofs.Common.{rules, append_assoc}
use Rattle.ddc_protocol.specs.Replies.{opening_text}
use Rattle.ddc_http.proofs.reply.opening_text.Goals as goal

pub returns : goal.returns
unfolding opening_text
returns c = search (rules, append_assoc)
