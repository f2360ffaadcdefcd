-- What writing a note in parts leaves.
use Rattle.std.specs.Prelude.{ℕ, List, Result, Ok, Err}
use Rattle.std.specs.Io.KnownBytes.{Appends}
use Rattle.ddc_names.specs.declared.Failed.{Failed}
use Rattle.ddc_link.specs.Writes.{AppendsFront}
use Rattle.ddc_service.specs.Effects.{Effect, Bytes, Rises, MeetsNoFault}

-- the whole text, or a front of it where the sink failed
abbrev pub NotesAs : Effect Bytes → List ℕ → Result (Unit {0}) Failed → Type 0
NotesAs notes text (Ok u) = Appends notes.before notes.after text × MeetsNoFault notes
NotesAs notes text (Err failed) = AppendsFront notes.before notes.after text × Rises notes
