use Rattle.std.proofs.Common.{List, ℕ, ◌++◌, codes, ◌∙◌, subst}
use Rattle.std.specs.Prelude.{decimal}
use Rattle.ddc_service.specs.Effects.{effect}
use Rattle.ddc_command.specs.inside.Noting.{NotesAs}
use Rattle.ddc_command.proofs.notes.write_corrupt.Goals as goal

pub returns : goal.returns
returns g c =
    let number = c.as_bytes-number.ensures.value ∙ c.format.ensures.text in
    let place = c.as_bytes-place.ensures.value ∙ c.format-2.ensures.text in
    let old = c.args.notes.now in
    let new = c.write_four.new.notes in
    let P : List ℕ → Type 0 = λ t. NotesAs (effect g.N.Sink.written g.N.Sink.faults old new) ((codes "corrupt file " ++ t) ++ (codes " at " ++ c.as_bytes-place.result.now)) c.write_four.result in
    let Q : List ℕ → Type 0 = λ t. NotesAs (effect g.N.Sink.written g.N.Sink.faults old new) ((codes "corrupt file " ++ decimal c.args.file) ++ (codes " at " ++ t)) c.write_four.result in
    record { gives = subst Q place (subst P number c.write_four.ensures.gives) }
