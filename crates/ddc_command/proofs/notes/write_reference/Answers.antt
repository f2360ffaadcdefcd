use Rattle.std.proofs.Common.{List, ℕ, ◌++◌, codes, Result, Ok, Err, ◌∙◌, subst}
use Rattle.ddc_names.specs.declared.Failed.{Failed}
use Rattle.ddc_names.specs.Names.{key_text}
use Rattle.ddc_service.specs.Effects.{effect}
use Rattle.ddc_command.specs.inside.Noting.{NotesAs}
use Rattle.ddc_command.proofs.Noting.{notes_first, notes_then}
use Rattle.ddc_command.proofs.notes.write_reference.Goals as goal

pub returns-in-Ok : goal.returns-in-Ok
returns-in-Ok g c =
    let space = c.as_bytes.ensures.value ∙ c.as_str.ensures.text in
    let bucket = c.as_bytes-2.ensures.value ∙ c.as_str-2.ensures.text in
    let name = c.args.name in
    let old = c.args.notes.now in
    let mid = c.write_four.new.notes in
    let new = c.write_note.new.notes in
    let ok : Result (Unit {0}) Failed = Ok tt in
    let P : List ℕ → Type 0 = λ t. NotesAs (effect g.N.Sink.written g.N.Sink.faults old mid) ((t ++ codes "/") ++ (c.as_bytes-2.result.now ++ codes "/")) ok in
    let Q : List ℕ → Type 0 = λ t. NotesAs (effect g.N.Sink.written g.N.Sink.faults old mid) ((name.space ++ codes "/") ++ (t ++ codes "/")) ok in
    let R : List ℕ → Type 0 = λ t. NotesAs (effect g.N.Sink.written g.N.Sink.faults mid new) t c.write_note.result in
    record {
      gives = notes_then g.N.Sink.written g.N.Sink.faults old mid new
          ((name.space ++ codes "/") ++ (name.spot.bucket ++ codes "/")) (key_text name.spot.key) c.write_note.result (subst Q bucket (subst P space c.in-Ok.ensures.gives)) (subst R c.text.ensures c.write_note.ensures.gives);
    }

pub returns-in-Err : goal.returns-in-Err
returns-in-Err g c =
    let space = c.as_bytes.ensures.value ∙ c.as_str.ensures.text in
    let bucket = c.as_bytes-2.ensures.value ∙ c.as_str-2.ensures.text in
    let name = c.args.name in
    let old = c.args.notes.now in
    let new = c.write_four.new.notes in
    let err : Result (Unit {0}) Failed = Err c.in-Err.failed in
    let P : List ℕ → Type 0 = λ t. NotesAs (effect g.N.Sink.written g.N.Sink.faults old new) ((t ++ codes "/") ++ (c.as_bytes-2.result.now ++ codes "/")) err in
    let Q : List ℕ → Type 0 = λ t. NotesAs (effect g.N.Sink.written g.N.Sink.faults old new) ((name.space ++ codes "/") ++ (t ++ codes "/")) err in
    record {
      gives = notes_first (effect g.N.Sink.written g.N.Sink.faults old new) ((name.space ++ codes "/") ++ (name.spot.bucket ++ codes "/")) (key_text name.spot.key) c.in-Err.failed (subst Q bucket (subst P space c.in-Err.ensures.gives));
    }
