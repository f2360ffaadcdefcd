-- What writing a note in parts leaves.
use Rattle.std.proofs.Common.{ℕ, List, ◌++◌, Result, Ok, Err, OnOk, OnErr, inl, inr, ◌∙◌, arith}
use Rattle.std.specs.Io.KnownBytes.{Appends}
use Rattle.std.proofs.KnownBytes.{Appends-trans}
use Rattle.ddc_names.specs.declared.Failed.{Failed}
use Rattle.ddc_names.specs.Causes.{HasCause}
use Rattle.ddc_link.specs.Writes.{AppendsFront}
use Rattle.ddc_service.specs.Effects.{Effect, Bytes, effect}
use Rattle.ddc_service.proofs.Writing.{front_more, front_after, rose_later}
use Rattle.ddc_command.specs.Ends.{Noted}
use Rattle.ddc_command.specs.inside.Noting.{NotesAs}

module _ (notes : Effect Bytes) where
  pub notes_put : (text : List ℕ) (result : Result (Unit {0}) Failed) → OnOk result (Appends notes.before notes.after text) → OnErr result (AppendsFront notes.before notes.after text) → HasCause notes.faults_before notes.faults_after result
      → NotesAs notes text result
  notes_put text (Ok u) ok err cause = (ok, cause.same)
  notes_put text (Err failed) ok err cause = (err, cause.failed)

  -- the first part was not written whole
  pub notes_first : (first rest : List ℕ) (failed : Failed) → NotesAs notes first (Err failed) → NotesAs notes (first ++ rest) (Err failed)
  notes_first first rest failed (front, rose) = (front_more notes.before notes.after first rest front, rose)

  pub noted : (note : List ℕ) (result : Result (Unit {0}) Failed) → NotesAs notes note result → Noted notes note
  noted note (Ok u) h = inl h
  noted note (Err failed) h = inr h

-- the first part was written whole
pub notes_then : {N : Type 0} (written : N → Bytes) (faults : N → ℕ) (old mid new : N) (first rest : List ℕ) (result : Result (Unit {0}) Failed)
    → NotesAs (effect written faults old mid) first (Ok tt) → NotesAs (effect written faults mid new) rest result → NotesAs (effect written faults old new) (first ++ rest) result
notes_then written faults old mid new first rest (Ok u) (wrote, same) (more, still) = (Appends-trans (written old) (written mid) (written new) first rest wrote more, same ∙ still)
notes_then written faults old mid new first rest (Err failed) (wrote, same) (front, rose) = (front_after (written old) (written mid) (written new) first rest wrote front, rose_later (faults old) (faults mid) (faults new) (omega (arith, same)) rose)
