use Rattle.std.proofs.Common.{sym, subst, refl}
use Rattle.ddc_protocol.specs.Requests.{put_ref}
use Rattle.ddc_service.specs.declared.session.Turn.{Turn}
use Rattle.ddc_service.specs.Effects.{effect}
use Rattle.ddc_service.specs.inside.Writes.{AnswersRequest}
use Rattle.ddc_service.proofs.Answering.{answers, command_gives}
use Rattle.ddc_service.proofs.reply.answer_put.Goals as goal

pub returns : goal.returns
returns g c =
    let P : Turn → Type 0 = λ turn. AnswersRequest g.D.Disk.tells g.D.Disk.meaning (effect g.W.Sink.written g.W.Sink.faults c.args.sink.now c.write_listed-written.new.sink) c.args.close c.args.hour c.args.book.now (put_ref c.args.name c.args.object) c.put-answer.new.self turn in
    record {
      gives = subst P (sym c.turn_of.ensures) (answers g.D.Disk.tells g.D.Disk.meaning (effect g.W.Sink.written g.W.Sink.faults c.args.sink.now c.write_listed-written.new.sink) c.args.close c.args.hour c.args.book.now c.put-answer.new.self c.requires.unbroken
          (put_ref c.args.name c.args.object) c.put-answer.ensures.goes_on c.put-answer.result c.write_listed-written.result refl
          (command_gives g.D.Disk.tells g.D.Disk.meaning (effect g.W.Sink.written g.W.Sink.faults c.args.sink.now c.write_listed-written.new.sink) c.args.close c.args.hour c.args.book.now c.put-answer.new.self c.requires.unbroken (put_ref c.args.name c.args.object) c.put-answer.ensures.goes_on c.put-answer.result c.put-answer.ensures.gives)
          c.put-answer.ensures.cause c.write_listed-written.ensures.memory c.write_listed-written.ensures.gives);
    }
