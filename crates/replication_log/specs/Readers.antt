-- A log beside all events that were ever added to it, and a reader that goes through it page by page.
use Rattle.std.specs.Prelude.{◌≡◌, ℕ, ◌+◌, ◌-◌, ◌≤◌, min, true, List, [], ◌∷◌, ◌++◌, length, take, Ok}
use Rattle.replication_log.specs.declared.event.Event.{Event}
use Rattle.replication_log.specs.Logs.{Log, empty_log, newest, with_event, first_number, AreNumbered, IsLog, can_follow}
use Rattle.replication_log.specs.LogPages.{events_after, ReadsOn}

-- these are all events that were added to a log: their numbers are consecutive, begin at 1 or above and end at its last, and
-- of them it has the newest, at least one where there are any
pub record IsHistory (all : List Event) (log : Log) : Type 0 where
  pub some : 1 ≤ log.kept
  pub counted : 1 ≤ first_number (log.last + 1) all
  pub numbered : AreNumbered (first_number (log.last + 1) all) all
  pub ends : first_number (log.last + 1) all + length all ≡ log.last + 1
  pub has : log.events ≡ newest log.kept all

-- to a new log no event was added
abbrev pub NewLogIsEmpty : Type 0
NewLogIsEmpty = (kept : ℕ) → 1 ≤ kept → IsHistory [] (empty_log kept)

-- however many events are added, each as it may follow, a log has the newest of all of them
abbrev pub LogKeepsNewest : Type 0
LogKeepsNewest = (all : List Event) (log : Log) (event : Event) → IsHistory all log → can_follow log event.number ≡ true → IsHistory (all ++ event ∷ []) (with_event log event)

-- the number of the last of some events, and `before` where there are none
abbrev pub last_number : ℕ → List Event → ℕ
last_number before [] = before
last_number before (event ∷ events) = last_number event.number events

-- a reader that begins after `from` has read these events and stands at a number. Events may be added between its pages, and
-- each page begins where the one before ended
pub data Reading (from : ℕ) : List Event → Log → List Event → ℕ → Type 0 where
  begins : (all : List Event) (log : Log) → IsHistory all log → Reading from all log [] from
  added : (all read : List Event) (log : Log) (at : ℕ) (event : Event) → event.number ≡ log.last + 1 → Reading from all log read at
      → Reading from (all ++ event ∷ []) (with_event log event) read at
  turned : (all read page : List Event) (log : Log) (at count : ℕ) → ReadsOn log at count (Ok page) → Reading from all log read at
      → Reading from all log (read ++ page) (last_number at page)

-- what a reader has read are the first of all events after `from`, so each once and none left out, and the numbers tell how many
pub record MissesNothing (from : ℕ) (all read : List Event) (at : ℕ) : Type 0 where
  pub first : read ≡ take (length read) (events_after all from)
  pub counted : at ≡ from + length read

abbrev pub ReaderMissesNothing : Type 0
ReaderMissesNothing = (from at : ℕ) (all read : List Event) (log : Log) → Reading from all log read at → MissesNothing from all read at

-- where the reader stands at the last number, it has read all of them
abbrev pub ReaderReadsAll : Type 0
ReaderReadsAll = (from : ℕ) (all read : List Event) (log : Log) → Reading from all log read log.last → read ≡ events_after all from

-- a page has as many events as were asked for, or all that are left up to the last number
abbrev pub PageGoesOn : Type 0
PageGoesOn = (log : Log) (after count : ℕ) (page : List Event) → IsLog log → ReadsOn log after count (Ok page) → length page ≡ min count (log.last - after)
