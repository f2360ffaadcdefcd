use Rattle.std.proofs.Common.{sym, subst}
use Rattle.ddc_http.specs.Reader.{asked_item}
use Rattle.ddc_http.specs.declared.request.Ask.{Ask}
use Rattle.ddc_service.specs.Effects.{effect}
use Rattle.ddc_service.specs.inside.Writes.{AnswersRequest}
use Rattle.ddc_service.proofs.reply.answer_request.Goals as goal

pub returns-in-GetBlob : goal.returns-in-GetBlob
returns-in-GetBlob g c =
    let P : Ask → Type 0 = λ ask. AnswersRequest g.D.Disk.tells g.D.Disk.meaning (effect g.W.Sink.written g.W.Sink.faults c.args.sink.now c.answer_fetch.new.sink) c.args.close c.args.hour c.args.book.now (asked_item (record { ask = ask })) c.answer_fetch.new.book c.answer_fetch.result in
    record { gives = subst P (sym c.in-GetBlob.is) (c.answer_fetch.ensures.gives c.args.hour) }
