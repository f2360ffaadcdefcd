-- Calls that only read.
use Rattle.std.specs.Prelude.{◌≡◌, ◌≤◌, ℕ, Result, IfErr, OnOk}
use Rattle.ddc_names.specs.Causes.{Rose}
use Rattle.ddc_disk.specs.Disk.{Meaning, EachSince, IsCalm, IsImage}
use Rattle.ddc_journal.specs.declared.fault.JournalFault.{JournalFault}
use Rattle.ddc_journal.specs.declared.fault.JournalFault.TheVariants.{DiskFailed}

-- a disk was only read: it holds what it held, and no crash leaves anything new
pub record IsOnlyRead (old new : Meaning) : Type 0 where
  pub held : new.held ≡ old.held
  pub calm : IsCalm old.line new.line
  pub past : EachSince old.line new.line (IsImage old.line)

-- the count of faults never falls, DiskFailed came only where it rose, and a call that is Ok met no fault
pub record FailsBy {T : Type 0} (before now : ℕ) (result : Result T JournalFault) : Type 0 where
  pub later : before ≤ now
  pub failed : IfErr result (λ fault. fault ≡ DiskFailed → Rose before now)
  pub same : OnOk result (before ≡ now)
