use Rattle.std.proofs.Common.{List, ℕ, ◌++◌, codes, Result, Ok, Err, ◌∙◌, subst}
use Rattle.std.specs.Prelude.{decimal}
use Rattle.ddc_names.specs.declared.Failed.{Failed}
use Rattle.ddc_service.specs.Effects.{effect}
use Rattle.ddc_command.specs.inside.Noting.{NotesAs}
use Rattle.ddc_command.proofs.Noting.{notes_first, notes_then}
use Rattle.ddc_command.proofs.notes.write_bad.Goals as goal

pub returns-in-Ok : goal.returns-in-Ok
returns-in-Ok g c =
    let digits = c.as_bytes-place.ensures.value ∙ c.format.ensures.text in
    let front = (codes "ddc: bad input at " ++ decimal c.args.at) ++ (codes ": " ++ c.args.code.now) in
    let old = c.args.notes.now in
    let mid = c.write_four.new.notes in
    let new = c.write_note.new.notes in
    let ok : Result (Unit {0}) Failed = Ok tt in
    let P : List ℕ → Type 0 = λ t. NotesAs (effect g.N.Sink.written g.N.Sink.faults old mid) ((codes "ddc: bad input at " ++ t) ++ (codes ": " ++ c.as_bytes.result.now)) ok in
    let Q : List ℕ → Type 0 = λ t. NotesAs (effect g.N.Sink.written g.N.Sink.faults old mid) ((codes "ddc: bad input at " ++ decimal c.args.at) ++ (codes ": " ++ t)) ok in
    record {
      gives = notes_then g.N.Sink.written g.N.Sink.faults old mid new
          front (codes "\n") c.write_note.result (subst Q c.as_bytes.ensures.value (subst P digits c.in-Ok.ensures.gives)) c.write_note.ensures.gives;
    }

pub returns-in-Err : goal.returns-in-Err
returns-in-Err g c =
    let digits = c.as_bytes-place.ensures.value ∙ c.format.ensures.text in
    let front = (codes "ddc: bad input at " ++ decimal c.args.at) ++ (codes ": " ++ c.args.code.now) in
    let old = c.args.notes.now in
    let new = c.write_four.new.notes in
    let err : Result (Unit {0}) Failed = Err c.in-Err.failed in
    let P : List ℕ → Type 0 = λ t. NotesAs (effect g.N.Sink.written g.N.Sink.faults old new) ((codes "ddc: bad input at " ++ t) ++ (codes ": " ++ c.as_bytes.result.now)) err in
    let Q : List ℕ → Type 0 = λ t. NotesAs (effect g.N.Sink.written g.N.Sink.faults old new) ((codes "ddc: bad input at " ++ decimal c.args.at) ++ (codes ": " ++ t)) err in
    record {
      gives = notes_first (effect g.N.Sink.written g.N.Sink.faults old new)
          front (codes "\n") c.in-Err.failed (subst Q c.as_bytes.ensures.value (subst P digits c.in-Err.ensures.gives));
    }
