-- The status and the note of each end of a command.
use Rattle.std.specs.Prelude.{ℕ, List, [], ◌++◌, codes, decimal}
use Rattle.ddc_names.specs.declared.reference.RefName.{RefName}
use Rattle.ddc_names.specs.Names.{hash_text}
use Rattle.ddc_model.specs.declared.fault.StoreFault.{StoreFault}
use Rattle.ddc_model.specs.declared.fault.StoreFault.TheVariants.{Broken, UnknownSpace, NotFound, NotFinalised, NotPending, Full, HistoryFull}
use Rattle.ddc_model.specs.declared.fault.StoreFault.TheVariants as faults
use Rattle.ddc_opening.specs.declared.fault.OpenFault.{OpenFault}
use Rattle.ddc_opening.specs.declared.fault.OpenFault.TheVariants.{NotMade, Corrupt, BadVersion, Unsound}
use Rattle.ddc_opening.specs.declared.fault.OpenFault.TheVariants as open_faults
use Rattle.ddc_service.specs.declared.session.SessionEnd.{SessionEnd}
use Rattle.ddc_service.specs.declared.session.SessionEnd.TheVariants.{Closed, Unread, Cut, Spent, ReadFailed, WriteFailed, DiskFailed, Damaged, NoMemory}
use Rattle.ddc_command.specs.declared.end.CommandEnd.{CommandEnd}
use Rattle.ddc_command.specs.declared.end.CommandEnd.TheVariants.{Usage, Unopened, Replayed, Uncreated, Unmade, Made, Untold}

-- ---- statuses

-- of each end of a session
abbrev pub session_status : SessionEnd → ℕ
session_status Closed = 0
session_status ReadFailed = 4
session_status WriteFailed = 4
session_status DiskFailed = 5
session_status NoMemory = 6
session_status Damaged = 7
session_status inside_the_input = 3

abbrev pub open_status : OpenFault → ℕ
open_status open_faults.DiskFailed = 5
open_status open_faults.NoMemory = 6
open_status no_store = 2

-- of a namespace that can't be made, by the store's refusal
abbrev pub refused_status : StoreFault → ℕ
refused_status faults.NoMemory = 6
refused_status faults.DiskFailed = 5
refused_status other = 8

-- of each end of a command
abbrev pub status_of : CommandEnd → ℕ
status_of Usage = 1
status_of (Unopened fault) = open_status fault
status_of (Replayed end) = session_status end
status_of (Uncreated fault) = open_status fault
status_of (Unmade fault) = refused_status fault
status_of Made = 0
status_of Untold = 4

-- ---- notes

abbrev pub no_memory_note : List ℕ
no_memory_note = codes "ddc: no memory\n"

abbrev pub disk_note : List ℕ
disk_note = codes "ddc: disk failed\n"

abbrev pub write_note : List ℕ
write_note = codes "ddc: write failed\n"

-- on an end inside the input, after so many bytes
abbrev pub bad_note : ℕ → List ℕ → List ℕ
bad_note at code = (codes "ddc: bad input at " ++ decimal at) ++ (codes ": " ++ code) ++ codes "\n"

-- on each end of a session
abbrev pub session_note : SessionEnd → List ℕ
session_note Closed = []
session_note (Unread at) = bad_note at (codes "unread")
session_note (Cut at) = bad_note at (codes "cut")
session_note (Spent at) = bad_note at (codes "too_many_requests")
session_note ReadFailed = codes "ddc: read failed\n"
session_note WriteFailed = write_note
session_note DiskFailed = disk_note
session_note Damaged = codes "ddc: damaged blobs 1\n"
session_note NoMemory = no_memory_note

-- a reference as text: the namespace, the bucket and the key's digits
abbrev pub reference_text : RefName → List ℕ
reference_text name = (name.space ++ codes "/") ++ (name.spot.bucket ++ codes "/") ++ hash_text (record { 0 = name.spot.key.0 })

-- what is told of the bytes of a store that can't be opened
abbrev pub open_cause : OpenFault → List ℕ
open_cause NotMade = codes "not made"
open_cause (Corrupt file at) = (codes "corrupt file " ++ decimal file) ++ (codes " at " ++ decimal at)
open_cause (BadVersion found) = codes "version " ++ decimal found
open_cause (Unsound name) = codes "unsound " ++ reference_text name
open_cause other = []

-- on a store that can't be opened
abbrev pub open_note : OpenFault → List ℕ
open_note open_faults.DiskFailed = disk_note
open_note open_faults.NoMemory = no_memory_note
open_note fault = codes "ddc: cannot open store: " ++ open_cause fault ++ codes "\n"

-- the word of a refusal
abbrev pub refused_code : StoreFault → List ℕ
refused_code (Broken count) = codes "broken"
refused_code UnknownSpace = codes "unknown_namespace"
refused_code NotFound = codes "not_found"
refused_code NotFinalised = codes "not_finalised"
refused_code NotPending = codes "not_pending"
refused_code (Full what limit) = codes "full"
refused_code (HistoryFull entries links) = codes "history_full"
refused_code other = codes "damaged"

-- on a command that the store refused
abbrev pub refused_note : StoreFault → List ℕ
refused_note faults.NoMemory = no_memory_note
refused_note faults.DiskFailed = disk_note
refused_note fault = codes "ddc: refused: " ++ refused_code fault ++ codes "\n"

-- on each end of a command
abbrev pub note_of : CommandEnd → List ℕ
note_of Usage = codes "usage: ddc init DIR NS TTL PIN | ddc replay DIR\n"
note_of (Unopened fault) = open_note fault
note_of (Replayed end) = session_note end
note_of (Uncreated fault) = open_note fault
note_of (Unmade fault) = refused_note fault
note_of Made = []
note_of Untold = write_note
