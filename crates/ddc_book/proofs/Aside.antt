-- That the count of reads of links stands aside of what commands give.
use Rattle.std.specs.Prelude.{ℕ, Bool, List, Option, None, Some, Result, Ok, Err, refl}
use Rattle.ddc_disk.specs.Disk.{Meaning}
use Rattle.ddc_model.specs.declared.entry.Entry.{Entry}
use Rattle.ddc_model.specs.declared.fault.StoreFault.{StoreFault}
use Rattle.ddc_model.specs.declared.fault.StoreFault.TheVariants.{Broken, UnknownSpace, NotFound, NotFinalised, NotPending, Full, HistoryFull, NoMemory, DiskFailed, Damaged}
use Rattle.ddc_book.specs.View.{BookView}
use Rattle.ddc_book.specs.Calls.{Stays, Becomes, CommandMakes, CommandGives, GoesOn}
use Rattle.ddc_book.specs.inside.Making.{IsStill, IsServing}

module _ {D : Type 0} (meaning : D → Meaning) (old : BookView D) (reads : ℕ) where
  abbrev pub aside : BookView D
  aside = record old { reads = reads }

  stays_from : (new : BookView D) → Stays meaning aside new → Stays meaning old new
  stays_from new stays = record { cache = stays.cache; steps = stays.steps; devices = stays.devices }

  module _ {A : Type 0} (bytes : List ℕ) (new : BookView D) (Answers : Result A StoreFault → Option Entry → Type 0) where
    becomes_from : (made : Option Entry) → Becomes meaning aside bytes new made → Becomes meaning old bytes new made
    becomes_from None is = stays_from new is
    becomes_from (Some entry) is = is

    makes_from : (answer : Result A StoreFault) → CommandMakes meaning aside bytes new Answers answer → CommandMakes meaning old bytes new Answers answer
    makes_from answer m = (m.0, m.1, m.2, becomes_from m.1 m.3)

    -- a command on the book with another count gives what it gives on the book
    pub gives_from : (answer : Result A StoreFault) → CommandGives meaning aside bytes new Answers answer → CommandGives meaning old bytes new Answers answer
    gives_from (Ok got) m = makes_from (Ok got) m
    gives_from (Err (Broken faults)) m = (m.0, stays_from new m.1)
    gives_from (Err UnknownSpace) m = makes_from (Err UnknownSpace) m
    gives_from (Err NotFound) m = makes_from (Err NotFound) m
    gives_from (Err NotFinalised) m = makes_from (Err NotFinalised) m
    gives_from (Err NotPending) m = makes_from (Err NotPending) m
    gives_from (Err (Full what limit)) m = makes_from (Err (Full what limit)) m
    gives_from (Err (HistoryFull entries links)) m = makes_from (Err (HistoryFull entries links)) m
    gives_from (Err NoMemory) m = (m.0, stays_from new m.1)
    gives_from (Err DiskFailed) m = m
    gives_from (Err (Damaged hash found)) m = makes_from (Err (Damaged hash found)) m

  module _ (tells : Bool) where
    pub goes_from : (bytes : List ℕ) (new : BookView D) → GoesOn tells meaning aside bytes new → GoesOn tells meaning old bytes new
    goes_from bytes new goes = record { opened = goes.opened; later = goes.later; past = goes.past; reaches = goes.reaches; crash = goes.crash }

    goes_into : (bytes : List ℕ) → GoesOn tells meaning old bytes old → GoesOn tells meaning old bytes aside
    goes_into bytes goes = record { opened = goes.opened; later = goes.later; past = goes.past; reaches = goes.reaches; crash = goes.crash }

    both_aside : (bytes : List ℕ) → GoesOn tells meaning old bytes old → GoesOn tells meaning aside bytes aside
    both_aside bytes goes = record { opened = goes.opened; later = goes.later; past = goes.past; reaches = goes.reaches; crash = goes.crash }

    -- only links were read
    pub stays_aside : IsStill tells meaning old → Stays meaning old aside
    stays_aside still = record { cache = refl; steps = refl; devices = still.stays.devices }

    pub goes_aside : IsStill tells meaning old → (bytes : List ℕ) → GoesOn tells meaning old bytes aside
    goes_aside still bytes = goes_into bytes (still.goes bytes)

    still_aside : IsStill tells meaning old → IsStill tells meaning aside
    still_aside still = record { stays = record { cache = refl; steps = refl; devices = still.stays.devices }; goes = λ bytes. both_aside bytes (still.goes bytes) }

    pub serves_aside : IsServing tells meaning old → IsServing tells meaning aside
    serves_aside serves = record { unbroken = serves.unbroken; whole = serves.whole; still = still_aside serves.still }
