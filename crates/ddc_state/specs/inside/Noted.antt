-- The events that a change notes, on the logs of all namespaces.
use Rattle.std.specs.Prelude.{ℕ, Bool, true, false, List, [], ◌∷◌, Option}
use Rattle.std.specs.FinMap.{FinMap, get, insert}
use Rattle.std.specs.Option.{unwrap_or}
use Rattle.ddc_names.specs.declared.hash.IoHash.{IoHash}
use Rattle.ddc_names.specs.declared.reference.RefName.{RefName}
use Rattle.ddc_names.specs.declared.reference.RefSpot.{RefSpot}
use Rattle.ddc_names.specs.Orders.{name_cmp}
use Rattle.replication_log.specs.declared.event.EventOp.TheVariants.{Deleted}
use Rattle.replication_log.specs.Logs.{Log, empty_log}
use Rattle.replication_log.specs.Several.{with_each}
use Rattle.ddc_model.specs.State.{State}
use Rattle.ddc_model.specs.Entries.{noted_added}

-- the log of a namespace, among logs that keep so many events
abbrev pub log_in : FinMap name_cmp Log → ℕ → List ℕ → Log
log_in logs kept space = unwrap_or (get logs space) (empty_log kept)

-- the logs once it is noted that these references of a namespace serve nothing any more
abbrev pub with_deletions : FinMap name_cmp Log → ℕ → List ℕ → List RefSpot → FinMap name_cmp Log
with_deletions logs kept space [] = logs
with_deletions logs kept space (spot ∷ spots) = insert logs space (with_each (log_in logs kept space) Deleted (spot ∷ spots))

-- a put that finalises its object is noted, at a reference that served this object before, or none
abbrev pub noted_where : Bool → State → RefName → Option IoHash → IoHash → State
noted_where true s name old root = noted_added s name old root
noted_where false s name old root = s
