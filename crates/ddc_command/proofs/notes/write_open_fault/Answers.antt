use Rattle.std.proofs.Common.{◌++◌, codes, sym, subst}
use Rattle.ddc_opening.specs.declared.fault.OpenFault.{OpenFault}
use Rattle.ddc_service.specs.Effects.{effect}
use Rattle.ddc_command.specs.Notes.{open_note, open_cause}
use Rattle.ddc_command.specs.inside.Noting.{NotesAs}
use Rattle.ddc_command.proofs.notes.write_open_fault.Goals as goal

pub returns-in-Unsound : goal.returns-in-Unsound
returns-in-Unsound g c =
    let old = c.args.notes.now in
    let new = c.write_unopened-in-Unsound.new.notes in
    let P : OpenFault → Type 0 = λ f. NotesAs (effect g.N.Sink.written g.N.Sink.faults old new) (codes "ddc: cannot open store: " ++ open_cause f ++ codes "\n") c.write_unopened-in-Unsound.result in
    let Q : OpenFault → Type 0 = λ f. NotesAs (effect g.N.Sink.written g.N.Sink.faults old new) (open_note f) c.write_unopened-in-Unsound.result in
    record { gives = subst Q (sym c.in-Unsound.is) (subst P c.in-Unsound.is c.write_unopened-in-Unsound.ensures.gives) }

pub returns-in-DiskFailed : goal.returns-in-DiskFailed
returns-in-DiskFailed g c =
    let old = c.args.notes.now in
    let new = c.write_note.new.notes in
    let Q : OpenFault → Type 0 = λ f. NotesAs (effect g.N.Sink.written g.N.Sink.faults old new) (open_note f) c.write_note.result in
    record { gives = subst Q (sym c.in-DiskFailed.is) c.write_note.ensures.gives }

pub returns-in-NoMemory : goal.returns-in-NoMemory
returns-in-NoMemory g c =
    let old = c.args.notes.now in
    let new = c.write_note-in-NoMemory.new.notes in
    let Q : OpenFault → Type 0 = λ f. NotesAs (effect g.N.Sink.written g.N.Sink.faults old new) (open_note f) c.write_note-in-NoMemory.result in
    record { gives = subst Q (sym c.in-NoMemory.is) c.write_note-in-NoMemory.ensures.gives }
