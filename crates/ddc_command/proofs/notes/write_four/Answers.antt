use Rattle.std.proofs.Common.{◌++◌}
use Rattle.ddc_service.specs.Effects.{effect}
use Rattle.ddc_command.proofs.Noting.{notes_first, notes_then}
use Rattle.ddc_command.proofs.notes.write_four.Goals as goal

pub returns-in-Ok : goal.returns-in-Ok
returns-in-Ok g c = record {
  gives = notes_then g.N.Sink.written g.N.Sink.faults c.args.notes.now c.write_two.new.notes c.write_two-in-Ok.new.notes
      (c.args.first.now ++ c.args.second.now) (c.args.third.now ++ c.args.fourth.now) c.write_two-in-Ok.result c.in-Ok.ensures.gives c.write_two-in-Ok.ensures.gives;
}

pub returns-in-Err : goal.returns-in-Err
returns-in-Err g c = record {
  gives = notes_first (effect g.N.Sink.written g.N.Sink.faults c.args.notes.now c.write_two.new.notes)
      (c.args.first.now ++ c.args.second.now) (c.args.third.now ++ c.args.fourth.now) c.in-Err.failed c.in-Err.ensures.gives;
}
