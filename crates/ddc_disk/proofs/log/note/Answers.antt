use Rattle.std.proofs.Common.{ℕ, ◌≡◌, ◌+◌, arith, ap, ◌++◌, ◌∷◌, [], sym}
use Rattle.std.specs.Prelude.{if◌then◌else◌, Result, Ok, Err, OnOk, false, not}
use Rattle.std.specs.Result.{is_err}
use Rattle.ddc_disk.specs.Memory.{failures}
use Rattle.ddc_disk.specs.MemoryLaws.{failures_last}
use Rattle.ddc_disk.specs.declared.call.DiskCall.{DiskCall}
use Rattle.ddc_disk.proofs.log.note.Goals as goal

when_ok : {T E : Type 0} (r : Result T E) (P : Type 0) → is_err r ≡ false → OnOk r P → P
when_ok (Ok x) P ok holds = holds
when_ok (Err e) P ok holds = cc ok

pub returns-then-not-done-clause-failed : goal.returns-then-not-done-clause-failed
returns-then-not-done-clause-failed c counted =
    let call : DiskCall = record { moment = c.args.log.now.moment + 1; what = c.args.what; done = not c.contains-done.result } in
    let pushed = when_ok c.push.result _ (sym c.if-is_err.ensures.value) c.push.ensures.ok in
    let more : failures c.push.new.self ≡ failures (c.args.log.now.calls ++ call ∷ []) = ap failures pushed in
    let one : ◌≡◌ {A = ℕ} (if not c.contains-done.result then 0 else 1) 1 = ap (λ b. let n : ℕ = if not b then 0 else 1 in n) c.if-not-done.true in
    omega (arith, more, failures_last c.args.log.now.calls call, one, c.saturating_add-log.ensures, counted)

pub returns-else-not-done-clause-failed : goal.returns-else-not-done-clause-failed
returns-else-not-done-clause-failed c counted =
    let call : DiskCall = record { moment = c.args.log.now.moment + 1; what = c.args.what; done = not c.contains-done.result } in
    let pushed = when_ok c.push.result _ (sym c.if-is_err.ensures.value) c.push.ensures.ok in
    let more : failures c.push.new.self ≡ failures (c.args.log.now.calls ++ call ∷ []) = ap failures pushed in
    let one : ◌≡◌ {A = ℕ} (if not c.contains-done.result then 0 else 1) 0 = ap (λ b. let n : ℕ = if not b then 0 else 1 in n) c.if-not-done.false in
    omega (arith, more, failures_last c.args.log.now.calls call, one, counted)
