use Rattle.std.proofs.Common.{List, ℕ, subst, ◌∙◌}
use Rattle.ddc_protocol.specs.Replies.{json_reply}
use Rattle.ddc_service.specs.Effects.{effect}
use Rattle.ddc_service.specs.inside.Writes.{WritesAs}
use Rattle.ddc_service.proofs.reply.refuse_history_full.Goals as goal

pub returns-in-Ok : goal.returns-in-Ok
returns-in-Ok g c =
    let P : List ℕ → Type 0 = λ body. WritesAs (effect g.W.Sink.written g.W.Sink.faults c.args.sink.now c.write_json.new.sink) (json_reply 503 body c.args.close) c.write_json.result in
    record { gives = subst P (c.as_slice.ensures ∙ c.in-Ok.ensures) c.write_json.ensures.gives }
