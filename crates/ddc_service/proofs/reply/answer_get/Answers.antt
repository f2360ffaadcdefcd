use Rattle.std.proofs.Common.{◌∙◌, sym, subst, refl}
use Rattle.ddc_model.specs.declared.fault.StoreFault.TheVariants.{DiskFailed, NoMemory}
use Rattle.ddc_book.specs.Calls.{got}
use Rattle.ddc_protocol.specs.Requests.{get_ref}
use Rattle.ddc_service.specs.declared.session.Turn.{Turn}
use Rattle.ddc_service.specs.Effects.{effect}
use Rattle.ddc_service.specs.inside.Writes.{AnswersRequest}
use Rattle.ddc_service.proofs.Answering.{answers, got_gives, got_fault, got_turn}
use Rattle.ddc_service.proofs.reply.answer_get.Goals as goal

pub returns : goal.returns
returns g c =
    let P : Turn → Type 0 = λ turn. AnswersRequest g.D.Disk.tells g.D.Disk.meaning (effect g.W.Sink.written g.W.Sink.faults c.args.sink.now c.write_held-written.new.sink) c.args.close c.args.hour c.args.book.now (get_ref c.args.name.now) c.get_ref-answer.new.self turn in
    record {
      gives = subst P (got_turn c.get_ref-answer.result c.write_held-written.result ∙ sym c.turn_of.ensures) (answers g.D.Disk.tells g.D.Disk.meaning (effect g.W.Sink.written g.W.Sink.faults c.args.sink.now c.write_held-written.new.sink) c.args.close c.args.hour c.args.book.now c.get_ref-answer.new.self c.requires.unbroken
          (get_ref c.args.name.now) c.get_ref-answer.ensures.goes_on (got c.get_ref-answer.result) c.write_held-written.result refl
          (got_gives g.D.Disk.tells g.D.Disk.meaning (effect g.W.Sink.written g.W.Sink.faults c.args.sink.now c.write_held-written.new.sink) c.args.close c.args.hour c.args.book.now c.get_ref-answer.new.self c.requires.unbroken c.args.name.now c.get_ref-answer.ensures.goes_on c.get_ref-answer.result c.get_ref-answer.ensures.gives)
          (λ e. c.get_ref-answer.ensures.cause (got_fault c.get_ref-answer.result DiskFailed e)) (λ e. c.write_held-written.ensures.memory (got_fault c.get_ref-answer.result NoMemory e)) c.write_held-written.ensures.gives);
    }
