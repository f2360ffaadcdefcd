-- What holds of every file: it is at most one journal, or has one fault.
use Rattle.std.specs.Prelude.{◌≡◌, ◌≢◌, ◌<◌, ◌≤◌, ◌^◌, ℕ, List}
use Rattle.ddc_journal.specs.Journal.{IsJournal, Loads}
use Rattle.ddc_journal.specs.Faults.{FaultOf, FileFault, IsKnown}
use Rattle.ddc_journal.specs.Pairs.{IsPairOf, NoneMade, PairFault}
use Rattle.ddc_journal.specs.declared.kind.FileKind.{FileKind}
use Rattle.ddc_journal.specs.declared.fault.JournalFault.{JournalFault}
use Rattle.ddc_journal.specs.declared.fault.JournalFault.TheVariants.{NotMade, NoMemory}

-- a file is a journal of one version, one generation and one list of bodies
abbrev pub OneJournal : Type 0
OneJournal = (file : List ℕ) (version other_version generation other : ℕ) (bodies others : List (List ℕ)) → version < 2 ^ 32 → other_version < 2 ^ 32
    → IsJournal version generation bodies file → IsJournal other_version other others file → (version ≡ other_version) × (generation ≡ other) × (bodies ≡ others)

-- a journal of a known version has no fault of content
abbrev pub JournalOrFault : Type 0
JournalOrFault = (kind : FileKind) (file : List ℕ) (version generation : ℕ) (bodies : List (List ℕ)) (fault : JournalFault) → IsKnown kind version → version < 2 ^ 32
    → IsJournal version generation bodies file → fault ≢ NoMemory → FileFault kind file fault → ⊥

-- a file has one fault
abbrev pub OneFaultOfKind : Type 0
OneFaultOfKind = (kind : FileKind) (file : List ℕ) (fault other : JournalFault) → fault ≢ NoMemory → other ≢ NoMemory → FileFault kind file fault → FileFault kind file other → fault ≡ other

-- ---- the same of a journal that stands alone

abbrev pub OneLoading : Type 0
OneLoading = (file : List ℕ) (generation other : ℕ) (bodies others : List (List ℕ)) → Loads generation bodies file → Loads other others file → (generation ≡ other) × (bodies ≡ others)

abbrev pub LoadsOrFails : Type 0
LoadsOrFails = (file : List ℕ) (generation : ℕ) (bodies : List (List ℕ)) (fault : JournalFault) → Loads generation bodies file → fault ≢ NoMemory → FaultOf file fault → ⊥

abbrev pub OneFileFault : Type 0
OneFileFault = (file : List ℕ) (fault other : JournalFault) → fault ≢ NoMemory → other ≢ NoMemory → FaultOf file fault → FaultOf file other → fault ≡ other

-- ---- the same of a pair

-- two files are a pair of one version and one list of bodies
abbrev pub OnePair : Type 0
OnePair = (first second : List ℕ) (version other : ℕ) (bodies others : List (List ℕ)) → version < 2 ^ 32 → other < 2 ^ 32 → IsPairOf version bodies first second → IsPairOf other others first second → (version ≡ other) × (bodies ≡ others)

-- a pair of a known version has no fault of content
abbrev pub PairOrFault : Type 0
PairOrFault = (newest : ℕ) (first second : List ℕ) (version : ℕ) (bodies : List (List ℕ)) (fault : JournalFault) → newest < 2 ^ 32 → 1 ≤ version → version ≤ newest
    → IsPairOf version bodies first second → fault ≢ NoMemory → PairFault newest first second fault → ⊥

-- two files have one fault
abbrev pub OnePairFault : Type 0
OnePairFault = (newest : ℕ) (first second : List ℕ) (fault other : JournalFault) → fault ≢ NoMemory → other ≢ NoMemory → PairFault newest first second fault → PairFault newest first second other → fault ≡ other

-- they aren't made exactly where neither file's gate is open
abbrev pub NotMadeIsNone : Type 0
NotMadeIsNone = (newest : ℕ) (first second : List ℕ) → (PairFault newest first second NotMade → NoneMade first second) × (NoneMade first second → PairFault newest first second NotMade)
