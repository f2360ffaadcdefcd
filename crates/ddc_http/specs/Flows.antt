-- What a source or a sink shows, and what writing a text does to a sink.
use Rattle.std.specs.Prelude.{◌≡◌, ℕ, ◌≤◌, List, Option, Result, Ok, Err}
use Rattle.std.specs.Io.KnownBytes.{Appends, Keeps}
use Rattle.ddc_names.specs.Causes.{Rose}
use Rattle.ddc_link.specs.Writes.{AppendsFront}
use Rattle.ddc_http.specs.declared.reply.WriteFault.{WriteFault}
use Rattle.ddc_http.specs.declared.reply.WriteFault.TheVariants.{Failed, NoMemory}

-- what a source or a sink shows at one moment: the bytes that it has left or that were written to it, where it tells
-- them, and how often it failed
pub record Flow : Type 0 where
  pub bytes : Option (List ℕ)
  pub faults : ℕ

abbrev pub flow : Option (List ℕ) → ℕ → Flow
flow bytes faults = record { bytes = bytes; faults = faults }

-- all of the text was written, or a front of it where the sink failed, or nothing for want of memory
abbrev pub WritesText : Flow → Flow → List ℕ → Result (Unit {0}) WriteFault → Type 0
WritesText old new text (Ok u) = Appends old.bytes new.bytes text × (old.faults ≡ new.faults)
WritesText old new text (Err Failed) = AppendsFront old.bytes new.bytes text × (old.faults ≤ new.faults) × Rose old.faults new.faults
WritesText old new text (Err NoMemory) = Keeps old.bytes new.bytes × (old.faults ≡ new.faults)
