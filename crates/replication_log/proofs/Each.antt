-- What an event for each of some references leaves.
use Rattle.std.proofs.Common.{◌≡◌, ℕ, ◌+◌, ◌==◌, nat_le, Bool, true, false, ◌&&◌, ◌||◌, List, [], ◌∷◌, length, refl, sym, ◌∙◌, arith, eq-eqb}
use Rattle.ddc_names.specs.declared.reference.RefSpot.{RefSpot}
use Rattle.replication_log.specs.declared.event.Event.{Event}
use Rattle.replication_log.specs.declared.event.EventOp.{EventOp}
use Rattle.replication_log.specs.Logs.{Log, with_event, IsLog, can_follow}
use Rattle.replication_log.specs.Several.{with_each}
use Rattle.replication_log.proofs.Newest.{with_is_log}

abbrev next_event : Log → EventOp → RefSpot → Event
next_event log op spot = record { number = log.last + 1; spot = spot; op = op }

or_true : (a b : Bool) → b ≡ true → (a || b) ≡ true
or_true true b h = refl
or_true false b h = h

pub follows_next : (log : Log) (number : ℕ) → number ≡ log.last + 1 → can_follow log number ≡ true
follows_next log number is = or_true ((length log.events == 0) && nat_le 1 number) (number == log.last + 1) (eq-eqb number (log.last + 1) is)

each_kept : (log : Log) (op : EventOp) (spots : List RefSpot) → (with_each log op spots).kept ≡ log.kept
each_kept log op [] = refl
each_kept log op (spot ∷ spots) = each_kept (with_event log (next_event log op spot)) op spots

pub each_last : (log : Log) (op : EventOp) (spots : List RefSpot) → (with_each log op spots).last ≡ log.last + length spots
each_last log op [] = omega arith
each_last log op (spot ∷ spots) = each_last (with_event log (next_event log op spot)) op spots ∙ omega arith

pub each_is_log : (log : Log) (op : EventOp) (spots : List RefSpot) → IsLog log → IsLog (with_each log op spots)
each_is_log log op [] is = is
each_is_log log op (spot ∷ spots) is =
    let event = next_event log op spot in
    each_is_log (with_event log event) op spots (with_is_log log event is (follows_next log (log.last + 1) refl))

-- a log with these events, and with the last of these numbers
pub each_read : (log : Log) (op : EventOp) (spots : List RefSpot) (last : ℕ) (events : List Event) → last ≡ log.last + length spots → events ≡ (with_each log op spots).events
    → ◌≡◌ {A = Log} (record { kept = log.kept; last = last; events = events }) (with_each log op spots)
each_read log op spots last events counted is =
    λ i. record { kept = sym (each_kept log op spots) i; last = (counted ∙ sym (each_last log op spots)) i; events = is i }
