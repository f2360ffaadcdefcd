use Rattle.std.proofs.Common.{sym, subst, refl}
use Rattle.ddc_protocol.specs.Requests.{finalise}
use Rattle.ddc_service.specs.declared.session.Turn.{Turn}
use Rattle.ddc_service.specs.Effects.{effect}
use Rattle.ddc_service.specs.inside.Writes.{AnswersRequest}
use Rattle.ddc_service.proofs.Answering.{answers, command_gives}
use Rattle.ddc_service.proofs.reply.answer_finalise.Goals as goal

pub returns : goal.returns
returns g c =
    let P : Turn → Type 0 = λ turn. AnswersRequest g.D.Disk.tells g.D.Disk.meaning (effect g.W.Sink.written g.W.Sink.faults c.args.sink.now c.write_listed-written.new.sink) c.args.close c.args.hour c.args.book.now (finalise c.args.name.now c.args.hash) c.finalise-answer.new.self turn in
    record {
      gives = subst P (sym c.turn_of.ensures) (answers g.D.Disk.tells g.D.Disk.meaning (effect g.W.Sink.written g.W.Sink.faults c.args.sink.now c.write_listed-written.new.sink) c.args.close c.args.hour c.args.book.now c.finalise-answer.new.self c.requires.unbroken
          (finalise c.args.name.now c.args.hash) c.finalise-answer.ensures.goes_on c.finalise-answer.result c.write_listed-written.result refl
          (command_gives g.D.Disk.tells g.D.Disk.meaning (effect g.W.Sink.written g.W.Sink.faults c.args.sink.now c.write_listed-written.new.sink) c.args.close c.args.hour c.args.book.now c.finalise-answer.new.self c.requires.unbroken (finalise c.args.name.now c.args.hash) c.finalise-answer.ensures.goes_on c.finalise-answer.result c.finalise-answer.ensures.gives)
          c.finalise-answer.ensures.cause c.write_listed-written.ensures.memory c.write_listed-written.ensures.gives);
    }
