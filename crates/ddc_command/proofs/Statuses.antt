-- Which ends have the statuses 1 and 2.
use Rattle.std.proofs.Common.{◌≢◌, arith}
use Rattle.ddc_opening.specs.declared.fault.OpenFault.{OpenFault}
use Rattle.ddc_opening.specs.declared.fault.OpenFault.TheVariants as open_faults
use Rattle.ddc_model.specs.declared.fault.StoreFault.{StoreFault}
use Rattle.ddc_model.specs.declared.fault.StoreFault.TheVariants as faults
use Rattle.ddc_service.specs.declared.session.SessionEnd.{SessionEnd}
use Rattle.ddc_service.specs.declared.session.SessionEnd.TheVariants.{Closed, Unread, Cut, Spent, ReadFailed, WriteFailed, DiskFailed, Damaged, NoMemory}
use Rattle.ddc_command.specs.Notes.{open_status, session_status, refused_status}

pub open_not_1 : (fault : OpenFault) → open_status fault ≢ 1
open_not_1 open_faults.NotMade e = omega (arith, e)
open_not_1 (open_faults.Corrupt file at) e = omega (arith, e)
open_not_1 (open_faults.BadVersion found) e = omega (arith, e)
open_not_1 (open_faults.Unsound name) e = omega (arith, e)
open_not_1 open_faults.DiskFailed e = omega (arith, e)
open_not_1 open_faults.NoMemory e = omega (arith, e)

pub session_not_1 : (end : SessionEnd) → session_status end ≢ 1
session_not_1 Closed e = omega (arith, e)
session_not_1 (Unread at) e = omega (arith, e)
session_not_1 (Cut at) e = omega (arith, e)
session_not_1 (Spent at) e = omega (arith, e)
session_not_1 ReadFailed e = omega (arith, e)
session_not_1 WriteFailed e = omega (arith, e)
session_not_1 DiskFailed e = omega (arith, e)
session_not_1 Damaged e = omega (arith, e)
session_not_1 NoMemory e = omega (arith, e)

pub session_not_2 : (end : SessionEnd) → session_status end ≢ 2
session_not_2 Closed e = omega (arith, e)
session_not_2 (Unread at) e = omega (arith, e)
session_not_2 (Cut at) e = omega (arith, e)
session_not_2 (Spent at) e = omega (arith, e)
session_not_2 ReadFailed e = omega (arith, e)
session_not_2 WriteFailed e = omega (arith, e)
session_not_2 DiskFailed e = omega (arith, e)
session_not_2 Damaged e = omega (arith, e)
session_not_2 NoMemory e = omega (arith, e)

pub refused_not_1 : (fault : StoreFault) → refused_status fault ≢ 1
refused_not_1 (faults.Broken count) e = omega (arith, e)
refused_not_1 faults.UnknownSpace e = omega (arith, e)
refused_not_1 faults.NotFound e = omega (arith, e)
refused_not_1 faults.NotFinalised e = omega (arith, e)
refused_not_1 faults.NotPending e = omega (arith, e)
refused_not_1 (faults.Full what limit) e = omega (arith, e)
refused_not_1 (faults.HistoryFull entries links) e = omega (arith, e)
refused_not_1 faults.NoMemory e = omega (arith, e)
refused_not_1 faults.DiskFailed e = omega (arith, e)
refused_not_1 (faults.Damaged name found) e = omega (arith, e)

pub refused_not_2 : (fault : StoreFault) → refused_status fault ≢ 2
refused_not_2 (faults.Broken count) e = omega (arith, e)
refused_not_2 faults.UnknownSpace e = omega (arith, e)
refused_not_2 faults.NotFound e = omega (arith, e)
refused_not_2 faults.NotFinalised e = omega (arith, e)
refused_not_2 faults.NotPending e = omega (arith, e)
refused_not_2 (faults.Full what limit) e = omega (arith, e)
refused_not_2 (faults.HistoryFull entries links) e = omega (arith, e)
refused_not_2 faults.NoMemory e = omega (arith, e)
refused_not_2 faults.DiskFailed e = omega (arith, e)
refused_not_2 (faults.Damaged name found) e = omega (arith, e)
