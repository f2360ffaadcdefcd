use Rattle.std.proofs.Common.{rules, append_assoc}
use Rattle.ddc_protocol.specs.Replies.{ending_text}
use Rattle.ddc_http.proofs.reply.ending_text.Goals as goal

pub returns : goal.returns
unfolding ending_text
returns c = search (rules, append_assoc)
