use Rattle.std.proofs.Common.{◌∙◌, sym, subst, refl}
use Rattle.ddc_model.specs.declared.fault.StoreFault.TheVariants.{DiskFailed, NoMemory}
use Rattle.ddc_book.specs.Calls.{opened_bytes}
use Rattle.ddc_protocol.specs.Requests.{get_blob}
use Rattle.ddc_service.specs.declared.session.Turn.{Turn}
use Rattle.ddc_service.specs.Effects.{effect}
use Rattle.ddc_service.specs.inside.Writes.{AnswersRequest}
use Rattle.ddc_service.proofs.Answering.{answers, opened_gives, opened_fault, opened_turn}
use Rattle.ddc_service.proofs.reply.answer_fetch.Goals as goal

pub returns : goal.returns
returns g c = record {
  gives = λ hour.
      let P : Turn → Type 0 = λ turn. AnswersRequest g.D.Disk.tells g.D.Disk.meaning (effect g.W.Sink.written g.W.Sink.faults c.args.sink.now c.write_opened-written.new.sink) c.args.close hour c.args.book.now (get_blob c.args.space.now c.args.hash) c.open_blob-answer.new.self turn in
      subst P (opened_turn c.open_blob-answer.result c.write_opened-written.result ∙ sym c.turn_of.ensures) (answers g.D.Disk.tells g.D.Disk.meaning (effect g.W.Sink.written g.W.Sink.faults c.args.sink.now c.write_opened-written.new.sink) c.args.close hour c.args.book.now c.open_blob-answer.new.self c.requires.unbroken
      (get_blob c.args.space.now c.args.hash) c.open_blob-answer.ensures.goes_on (opened_bytes c.open_blob-answer.result) c.write_opened-written.result refl
      (opened_gives g.D.Disk.tells g.D.Disk.meaning (effect g.W.Sink.written g.W.Sink.faults c.args.sink.now c.write_opened-written.new.sink) c.args.close hour c.args.book.now c.open_blob-answer.new.self c.requires.unbroken c.args.space.now c.args.hash c.open_blob-answer.ensures.goes_on c.open_blob-answer.result c.open_blob-answer.ensures.gives)
      (λ e. c.open_blob-answer.ensures.cause (opened_fault c.open_blob-answer.result DiskFailed e)) (λ e. c.write_opened-written.ensures.memory (opened_fault c.open_blob-answer.result NoMemory e)) c.write_opened-written.ensures.gives);
}
