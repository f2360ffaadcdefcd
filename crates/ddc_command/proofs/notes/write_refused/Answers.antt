use Rattle.std.proofs.Common.{◌++◌, codes}
use Rattle.ddc_service.specs.Effects.{effect}
use Rattle.ddc_command.proofs.Noting.{notes_first, notes_then}
use Rattle.ddc_command.proofs.notes.write_refused.Goals as goal

pub returns-in-Ok : goal.returns-in-Ok
returns-in-Ok g c = record {
  gives = notes_then g.N.Sink.written g.N.Sink.faults c.args.notes.now c.write_two.new.notes c.write_note.new.notes
      (codes "ddc: refused: " ++ c.args.code.now) (codes "\n") c.write_note.result c.in-Ok.ensures.gives c.write_note.ensures.gives;
}

pub returns-in-Err : goal.returns-in-Err
returns-in-Err g c = record {
  gives = notes_first (effect g.N.Sink.written g.N.Sink.faults c.args.notes.now c.write_two.new.notes)
      (codes "ddc: refused: " ++ c.args.code.now) (codes "\n") c.in-Err.failed c.in-Err.ensures.gives;
}
