-- What a reader is told that has read a log up to some number.
use Rattle.std.specs.Prelude.{◌≡◌, ℕ, ◌+◌, ◌<◌, ◌≤◌, nat_lt, List, take, Result, Ok, Err}
use Rattle.std.specs.List.{filter}
use Rattle.replication_log.specs.declared.event.Event.{Event}
use Rattle.replication_log.specs.declared.event.LogFault.{LogFault}
use Rattle.replication_log.specs.declared.event.LogFault.TheVariants.{Ahead, Trimmed, NoMemory}
use Rattle.replication_log.specs.Logs.{Log, oldest_of}

-- the events with a greater number, in order
abbrev pub events_after : List Event → ℕ → List Event
events_after events after = filter (λ event. nat_lt after event.number) events

-- a reader that has read up to a number can go on: there is that much, and no event after that number has gone
abbrev pub CanGoOn : Log → ℕ → Type 0
CanGoOn log after = (after ≤ log.last) × (oldest_of log ≤ after + 1)

-- the first `count` events after that number, or why there are none for the reader
abbrev pub ReadsOn : Log → ℕ → ℕ → Result (List Event) LogFault → Type 0
ReadsOn log after count (Ok page) = CanGoOn log after × (page ≡ take count (events_after log.events after))
ReadsOn log after count (Err (Ahead last)) = (log.last < after) × (last ≡ log.last)
ReadsOn log after count (Err (Trimmed oldest)) = (after + 1 < oldest_of log) × (oldest ≡ oldest_of log)
ReadsOn log after count (Err NoMemory) = CanGoOn log after
