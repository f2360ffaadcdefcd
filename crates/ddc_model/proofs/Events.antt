-- That noting events changes the logs alone, and how far it raises their numbers.
use Rattle.std.specs.Prelude.{◌≡◌, ℕ, ◌+◌, Bool, true, false, List, Option, None, Some, if◌then◌else◌}
use Rattle.std.proofs.Common.{ap, arith}
use Rattle.std.specs.FinMap.{FinMap, get}
use Rattle.std.specs.Option.{unwrap_or}
use Rattle.ddc_names.specs.declared.hash.IoHash.{IoHash}
use Rattle.ddc_names.specs.declared.reference.RefName.{RefName}
use Rattle.ddc_names.specs.Orders.{name_cmp, name_exact, name_total}
use Rattle.replication_log.specs.declared.event.Event.{Event}
use Rattle.replication_log.specs.declared.event.EventOp.{EventOp}
use Rattle.replication_log.specs.declared.event.EventOp.TheVariants.{Added, Deleted}
use Rattle.replication_log.specs.Logs.{Log, empty_log, with_event}
use Rattle.ddc_model.specs.State.{State, done_of, log_of}
use Rattle.ddc_model.specs.Entries.{count_added, count_deleted, is_hash, noted_added, noted_deleted, noted_put, with_noted, with_numbered}
use Rattle.ddc_model.proofs.Maps.{get_here, get_away}

-- ---- the logs alone

either : (P : State → Type 0) (b : Bool) (s t : State) → P s → P t → P (if b then s else t)
either P true s t p q = p
either P false s t p q = q

-- what holds whatever the logs are holds once an event is noted
module _ (P : State → Type 0) (s : State) (any : (logs : FinMap name_cmp Log) → P (record s { logs = logs })) (name : RefName) where
  noted_any : (op : EventOp) → P (with_noted s name op)
  noted_any op = any (with_noted s name op).logs

  pub added_any : (old : Option IoHash) (hash : IoHash) → P (noted_added s name old hash)
  added_any old hash = either P (is_hash old hash) s (with_noted s name (Added hash)) (any s.logs) (noted_any (Added hash))

  pub deleted_any : (old : Option IoHash) → P (noted_deleted s name old)
  deleted_any (Some old) = noted_any Deleted
  deleted_any None = any s.logs

  pub put_any : (root : IoHash) (whole : Bool) → P (noted_put s name root whole)
  put_any root true = added_any (done_of (get s.slots name)) root
  put_any root false = any s.logs

-- ---- the log of a namespace

module _ (s : State) (name : RefName) (number : ℕ) (op : EventOp) where
  abbrev pub new_event : Event
  new_event = record { number = number; spot = name.spot; op = op }

  -- an event stands in the log of its namespace
  pub log_here : log_of (with_numbered s name number op) name.space ≡ with_event (log_of s name.space) new_event
  log_here = ap (λ (o : Option Log). unwrap_or o (empty_log s.limits.kept)) (get_here name_total name_exact s.logs name.space (with_event (log_of s name.space) new_event))

  -- and the others stay
  pub log_away : (space : List ℕ) → (space ≡ name.space → ⊥) → log_of (with_numbered s name number op) space ≡ log_of s space
  log_away space other = ap (λ (o : Option Log). unwrap_or o (empty_log s.limits.kept)) (get_away name_total name_exact s.logs name.space (with_event (log_of s name.space) new_event) space other)

-- the number of the last event
abbrev last_of : State → List ℕ → ℕ
last_of s space = (log_of s space).last

plus_none : (n : ℕ) → n ≡ n + 0
plus_none n = omega arith

-- it rises by the events that are noted
pub deleted_last : (s : State) (name : RefName) (old : Option IoHash) → last_of (noted_deleted s name old) name.space ≡ last_of s name.space + count_deleted old
deleted_last s name (Some old) = ap (λ (log : Log). log.last) (log_here s name (last_of s name.space + 1) Deleted)
deleted_last s name None = plus_none (last_of s name.space)

pub added_last : (s : State) (name : RefName) (old : Option IoHash) (hash : IoHash) → last_of (noted_added s name old hash) name.space ≡ last_of s name.space + count_added old hash
added_last s name old hash = split (is_hash old hash) where
  split : (same : Bool) → last_of (if same then s else with_noted s name (Added hash)) name.space ≡ last_of s name.space + (if same then 0 else 1)
  split true = plus_none (last_of s name.space)
  split false = ap (λ (log : Log). log.last) (log_here s name (last_of s name.space + 1) (Added hash))
