-- A log as contracts see it, and what adding an event leaves.
use Rattle.std.specs.Prelude.{◌≡◌, ℕ, ◌+◌, ◌-◌, ◌≤◌, ◌==◌, nat_le, Bool, ◌&&◌, ◌||◌, List, [], ◌∷◌, ◌++◌, length, drop, Option, None, Some, refl}
use Rattle.std.specs.Coded.{Coded, code_by, coded×, coded_ℕ, coded_list, coded_option}
use Rattle.ddc_names.specs.declared.hash.IoHash.{IoHash}
use Rattle.ddc_names.specs.declared.reference.RefSpot.{RefSpot}
use Rattle.ddc_names.specs.Orders.{coded_io_hash, coded_spot}
use Rattle.replication_log.specs.declared.event.Event.{Event}
use Rattle.replication_log.specs.declared.event.EventOp.{EventOp}
use Rattle.replication_log.specs.declared.event.EventOp.TheVariants.{Added, Deleted}

-- how many events it keeps at most, the number of the last event, and the events that it has, oldest first
pub record Log : Type 0 where
  pub kept : ℕ
  pub last : ℕ
  pub events : List Event

-- a log of no events
abbrev pub empty_log : ℕ → Log
empty_log kept = record { kept = kept; last = 0; events = [] }

-- the last `kept` of some events, or all of them where they are fewer
abbrev pub newest : ℕ → List Event → List Event
newest kept events = drop (length events - kept) events

-- the log once an event is added: the newest of its events and this one
abbrev pub with_event : Log → Event → Log
with_event log event = record { kept = log.kept; last = event.number; events = newest log.kept (log.events ++ event ∷ []) }

-- the number of the first of some events, and `next` where there are none
abbrev pub first_number : ℕ → List Event → ℕ
first_number next [] = next
first_number next (event ∷ events) = event.number

-- the number of the oldest event that a log has, and that of the next event where it has none
abbrev pub oldest_of : Log → ℕ
oldest_of log = first_number (log.last + 1) log.events

-- the events have the numbers `first`, `first + 1` and so on
abbrev pub AreNumbered : ℕ → List Event → Type 0
AreNumbered first [] = Unit {0}
AreNumbered first (event ∷ events) = (event.number ≡ first) × AreNumbered (first + 1) events

-- what is so of every log: it keeps at least one event and no more than it may, their numbers are consecutive, begin at 1 or
-- above and end at the last number, and a log without events never had one
pub record IsLog (log : Log) : Type 0 where
  pub some : 1 ≤ log.kept
  pub few : length log.events ≤ log.kept
  pub counted : 1 ≤ oldest_of log
  pub numbered : AreNumbered (oldest_of log) log.events
  pub ends : oldest_of log + length log.events ≡ log.last + 1
  pub fresh : log.events ≡ [] → log.last ≡ 0

-- whether an event with this number can be added: any number from 1 on to a log of no events, else the next one
abbrev pub can_follow : Log → ℕ → Bool
can_follow log number = ((length log.events == 0) && nat_le 1 number) || (number == log.last + 1)

abbrev pub object_of : EventOp → Option IoHash
object_of (Added object) = Some object
object_of Deleted = None

abbrev pub op_of : Option IoHash → EventOp
op_of (Some object) = Added object
op_of None = Deleted

pub op_again : (op : EventOp) → op_of (object_of op) ≡ op
op_again (Added object) = refl
op_again Deleted = refl

abbrev pub coded_op : Coded EventOp
coded_op = code_by (Option IoHash) (coded_option coded_io_hash) object_of op_of op_again

abbrev pub coded_event : Coded Event
coded_event = code_by (ℕ × (RefSpot × EventOp)) (coded× coded_ℕ (coded× coded_spot coded_op)) (λ event. (event.number, (event.spot, event.op))) (λ p. record { number = p.0; spot = p.1.0; op = p.1.1 }) (λ _. refl)

abbrev pub coded_log : Coded Log
coded_log = code_by (ℕ × (ℕ × List Event)) (coded× coded_ℕ (coded× coded_ℕ (coded_list coded_event))) (λ log. (log.kept, (log.last, log.events))) (λ p. record { kept = p.0; last = p.1.0; events = p.1.1 }) (λ _. refl)
