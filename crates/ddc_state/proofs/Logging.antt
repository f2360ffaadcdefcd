-- The log of a namespace, as it is found among all logs and as it is put back.
use Rattle.std.specs.Prelude.{◌≡◌, ℕ, ◌<◌, List, [], ◌∷◌, length, Option, None, Some, refl}
use Rattle.std.proofs.Common.{ap, sym, ◌∙◌, arith}
use Rattle.std.specs.Option.{unwrap_or}
use Rattle.std.specs.FinMap.{FinMap, get, insert}
use Rattle.ddc_names.specs.Orders.{name_cmp, name_total, name_exact}
use Rattle.ddc_names.specs.declared.reference.RefSpot.{RefSpot}
use Rattle.replication_log.specs.declared.event.EventOp.TheVariants.{Deleted}
use Rattle.replication_log.specs.Logs.{Log, empty_log}
use Rattle.replication_log.specs.Several.{with_each}
use Rattle.ddc_model.proofs.Maps.{get_here}
use Rattle.ddc_state.specs.inside.Noted.{log_in, with_deletions}
use Rattle.ddc_state.proofs.Given.{put_same, put_twice}

module _ (logs : FinMap name_cmp Log) (kept : ℕ) (space : List ℕ) where
  pub found_log : (log : Log) → Some log ≡ get logs space → log_in logs kept space ≡ log
  found_log log some = sym (ap (λ (o : Option Log). unwrap_or o (empty_log kept)) some)

  pub no_log : None ≡ get logs space → log_in logs kept space ≡ empty_log kept
  no_log none = sym (ap (λ (o : Option Log). unwrap_or o (empty_log kept)) none)

  -- a log that is put back as it was found
  pub log_put_back : (log new : Log) → Some log ≡ get logs space → new ≡ log → insert logs space new ≡ logs
  log_put_back log new some same = ap (insert logs space) same ∙ put_same name_cmp name_total name_exact logs space log (sym some)

  pub deletions_of_some : (spots : List RefSpot) → 0 < length spots → with_deletions logs kept space spots ≡ insert logs space (with_each (log_in logs kept space) Deleted spots)
  deletions_of_some [] some = absurd (omega arith)
  deletions_of_some (spot ∷ spots) some = refl

  pub no_deletions : (spots : List RefSpot) → length spots ≡ 0 → with_deletions logs kept space spots ≡ logs
  no_deletions [] none = refl
  no_deletions (spot ∷ spots) none = absurd (omega arith)

  -- deletions after a change of the log
  pub deletions_after : (log : Log) (spots : List RefSpot) → with_deletions (insert logs space log) kept space spots ≡ insert logs space (with_each log Deleted spots)
  deletions_after log [] = refl
  deletions_after log (spot ∷ spots) =
      put_twice name_cmp name_total name_exact logs space log (with_each (log_in (insert logs space log) kept space) Deleted (spot ∷ spots))
      ∙ ap (λ (o : Option Log). insert logs space (with_each (unwrap_or o (empty_log kept)) Deleted (spot ∷ spots))) (get_here name_total name_exact logs space log)
