-- Worked examples of the definitions: a log that keeps three events, to which five are added.
use Rattle.std.specs.Prelude.{◌≡◌, ℕ, List, [], ◌∷◌, true, false, take, refl}
use Rattle.replication_log.specs.declared.event.Event.{Event}
use Rattle.replication_log.specs.declared.event.EventOp.TheVariants.{Deleted}
use Rattle.replication_log.specs.Logs.{Log, empty_log, with_event, oldest_of, can_follow}
use Rattle.replication_log.specs.LogPages.{events_after}

abbrev event_of : ℕ → Event
event_of number = record { number = number; spot = record { bucket = 97 ∷ []; key = record { 0 = [] } }; op = Deleted }

abbrev log_of : List ℕ → Log → Log
log_of [] log = log
log_of (number ∷ numbers) log = log_of numbers (with_event log (event_of number))

abbrev five : Log
five = log_of (1 ∷ 2 ∷ 3 ∷ 4 ∷ 5 ∷ []) (empty_log 3)

-- of five events the last three stand
the_last_three : five.events ≡ event_of 3 ∷ event_of 4 ∷ event_of 5 ∷ []
the_last_three = refl

their_numbers : five.last ≡ 5
their_numbers = refl

the_oldest : oldest_of five ≡ 3
the_oldest = refl

-- a log of no events awaits the event 1
the_first : oldest_of (empty_log 3) ≡ 1
the_first = refl

-- a log may begin at any number, and goes on with the next one
begins_late : oldest_of (log_of (40 ∷ 41 ∷ []) (empty_log 3)) ≡ 40
begins_late = refl

may_begin : can_follow (empty_log 3) 40 ≡ true
may_begin = refl

may_not_begin : can_follow (empty_log 3) 0 ≡ false
may_not_begin = refl

may_not_leave_out : can_follow five 7 ≡ false
may_not_leave_out = refl

may_not_repeat : can_follow five 5 ≡ false
may_not_repeat = refl

-- pages of two events
first_page : take 2 (events_after five.events 2) ≡ event_of 3 ∷ event_of 4 ∷ []
first_page = refl

second_page : take 2 (events_after five.events 4) ≡ event_of 5 ∷ []
second_page = refl

no_page : take 2 (events_after five.events 5) ≡ []
no_page = refl
