use Rattle.std.proofs.Common.{◌++◌, codes, Result, Ok, Err}
use Rattle.ddc_names.specs.declared.Failed.{Failed}
use Rattle.ddc_service.specs.Effects.{effect}
use Rattle.ddc_command.specs.Notes.{open_cause}
use Rattle.ddc_command.proofs.Noting.{notes_first, notes_then}
use Rattle.ddc_command.proofs.notes.write_unopened.Goals as goal

pub returns-in-Ok-write_cause : goal.returns-in-Ok-write_cause
returns-in-Ok-write_cause g c =
    let front = codes "ddc: cannot open store: " in
    let cause = open_cause c.args.fault in
    let old = c.args.notes.now in
    let mid = c.write_note.new.notes in
    let near = c.write_cause.new.notes in
    let new = c.write_note-in-Ok-write_cause.new.notes in
    let ok : Result (Unit {0}) Failed = Ok tt in
    let both = notes_then g.N.Sink.written g.N.Sink.faults old mid near front cause ok c.in-Ok.ensures.gives c.in-Ok-write_cause.ensures.gives in
    record { gives = notes_then g.N.Sink.written g.N.Sink.faults old near new (front ++ cause) (codes "\n") c.write_note-in-Ok-write_cause.result both c.write_note-in-Ok-write_cause.ensures.gives }

pub returns-in-Err-write_cause : goal.returns-in-Err-write_cause
returns-in-Err-write_cause g c =
    let front = codes "ddc: cannot open store: " in
    let cause = open_cause c.args.fault in
    let old = c.args.notes.now in
    let mid = c.write_note.new.notes in
    let new = c.write_cause.new.notes in
    let err : Result (Unit {0}) Failed = Err c.in-Err-write_cause.failed in
    let both = notes_then g.N.Sink.written g.N.Sink.faults old mid new front cause err c.in-Ok.ensures.gives c.in-Err-write_cause.ensures.gives in
    record { gives = notes_first (effect g.N.Sink.written g.N.Sink.faults old new) (front ++ cause) (codes "\n") c.in-Err-write_cause.failed both }

pub returns-in-Err : goal.returns-in-Err
returns-in-Err g c =
    let front = codes "ddc: cannot open store: " in
    let cause = open_cause c.args.fault in
    let old = c.args.notes.now in
    let new = c.write_note.new.notes in
    let first = notes_first (effect g.N.Sink.written g.N.Sink.faults old new) front cause c.in-Err.failed c.in-Err.ensures.gives in
    record { gives = notes_first (effect g.N.Sink.written g.N.Sink.faults old new) (front ++ cause) (codes "\n") c.in-Err.failed first }
