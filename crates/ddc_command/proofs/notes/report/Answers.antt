use Rattle.ddc_service.specs.Effects.{effect}
use Rattle.ddc_command.proofs.Noting.{noted}
use Rattle.ddc_command.specs.Notes.{note_of}
use Rattle.ddc_command.proofs.notes.report.Goals as goal

pub returns-clause-noted : goal.returns-clause-noted
returns-clause-noted g c = noted (effect g.N.Sink.written g.N.Sink.faults c.args.notes.now c.write_end.new.notes) (note_of c.args.end) c.write_end.result c.write_end.ensures.gives
