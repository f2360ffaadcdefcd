use Rattle.ddc_service.specs.Effects.{effect}
use Rattle.ddc_command.proofs.Noting.{notes_put}
use Rattle.ddc_command.proofs.notes.write_note.Goals as goal

pub returns : goal.returns
returns g c = record {
  gives = notes_put (effect g.N.Sink.written g.N.Sink.faults c.args.notes.now c.put_all.new.sink) c.args.text.now c.put_all.result
      c.put_all.ensures.ok c.put_all.ensures.err c.put_all.ensures.cause;
}
