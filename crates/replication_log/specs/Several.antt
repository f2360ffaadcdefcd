-- Several events that are added to a log.
use Rattle.std.specs.Prelude.{◌+◌, List, [], ◌∷◌}
use Rattle.ddc_names.specs.declared.reference.RefSpot.{RefSpot}
use Rattle.replication_log.specs.declared.event.EventOp.{EventOp}
use Rattle.replication_log.specs.Logs.{Log, with_event}

-- the log once an event with this op is added for each of these references, with the next numbers
abbrev pub with_each : Log → EventOp → List RefSpot → Log
with_each log op [] = log
with_each log op (spot ∷ spots) = with_each (with_event log (record { number = log.last + 1; spot = spot; op = op })) op spots
