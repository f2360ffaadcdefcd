use Rattle.std.proofs.Common.{◌≡◌, ◌<◌, ℕ, sym, ap, subst, ◌∙◌, arith, ◌^◌, unwrap_or, Option}
use Rattle.blob_store.specs.inside.Areas.{extents_in}
use Rattle.blob_store.specs.inside.Runs.{first_gap}
use Rattle.blob_store.specs.Claims.{IsFirstRun, HasNoRun}
use Rattle.ddc_model.specs.Extents.{units_of}
use Rattle.blob_store.proofs.Placed.{in_order_of}
use Rattle.blob_store.proofs.Runs.{in_order_weaker}
use Rattle.blob_store.proofs.Claimed.{run_start, run_start_is, RunFound, run_found, first_run, no_run}
use Rattle.blob_store.proofs.store.BlobStore.find_free.Goals as goal

pub end_after-end-requires-clause-ordered : goal.end_after-end-requires-clause-ordered
end_after-end-requires-clause-ordered c =
    let inside = c.self.inside in
    in_order_weaker 0 inside.units 0 (2 ^ 51) (extents_in inside.area) (omega arith) c.self.invariant.0 (in_order_of 0 inside.units inside.area c.self.invariant.1)

pub first_gap-requires-clause-ordered : goal.first_gap-requires-clause-ordered
first_gap-requires-clause-ordered c =
    let inside = c.self.inside in
    in_order_weaker 0 inside.units 0 (2 ^ 51) (extents_in inside.area) (omega arith) c.self.invariant.0 (in_order_of 0 inside.units inside.area c.self.invariant.1)

pub overflow_sub-self-inside : goal.overflow_sub-self-inside
overflow_sub-self-inside c =
    let inside = c.self.inside in
    let es = extents_in inside.area in
    let n = c.div_ceil-units.result in
    let order = in_order_of 0 inside.units inside.area c.self.invariant.1 in
    let at : c.unwrap_or-start.result ≡ run_start 0 n es =
    c.unwrap_or-start.ensures ∙ ap (λ (o : Option ℕ). unwrap_or o c.end_after-end.result) c.first_gap.ensures ∙ ap (unwrap_or (first_gap 0 n es)) c.end_after-end.ensures ∙ run_start_is 0 n es in
    let run : RunFound 0 n inside.units es c.unwrap_or-start.result = subst (RunFound 0 n inside.units es) (sym at) (run_found 0 n inside.units es (omega arith) order) in
    run.below

pub returns-then-self-start-clause-none : goal.returns-then-self-start-clause-none
returns-then-self-start-clause-none c =
    let inside = c.self.inside in
    let es = extents_in inside.area in
    let n = c.div_ceil-units.result in
    let order = in_order_of 0 inside.units inside.area c.self.invariant.1 in
    let at : c.unwrap_or-start.result ≡ run_start 0 n es =
    c.unwrap_or-start.ensures ∙ ap (λ (o : Option ℕ). unwrap_or o c.end_after-end.result) c.first_gap.ensures ∙ ap (unwrap_or (first_gap 0 n es)) c.end_after-end.ensures ∙ run_start_is 0 n es in
    let run : RunFound 0 n inside.units es c.unwrap_or-start.result = subst (RunFound 0 n inside.units es) (sym at) (run_found 0 n inside.units es (omega arith) order) in
    let some : 0 < n = omega (arith, c.div_ceil-units.ensures, c.if-len-eq0.false) in
    let same : n ≡ units_of c.args.len = omega (arith, c.div_ceil-units.ensures) in
    subst (λ s. HasNoRun s (units_of c.args.len)) c.self.view_is (no_run inside.units n (units_of c.args.len) c.unwrap_or-start.result es some same c.if-self-start.true order run)

pub returns-clause-first : goal.returns-clause-first
returns-clause-first c =
    let inside = c.self.inside in
    let es = extents_in inside.area in
    let n = c.div_ceil-units.result in
    let order = in_order_of 0 inside.units inside.area c.self.invariant.1 in
    let at : c.unwrap_or-start.result ≡ run_start 0 n es =
    c.unwrap_or-start.ensures ∙ ap (λ (o : Option ℕ). unwrap_or o c.end_after-end.result) c.first_gap.ensures ∙ ap (unwrap_or (first_gap 0 n es)) c.end_after-end.ensures ∙ run_start_is 0 n es in
    let run : RunFound 0 n inside.units es c.unwrap_or-start.result = subst (RunFound 0 n inside.units es) (sym at) (run_found 0 n inside.units es (omega arith) order) in
    let some : 0 < n = omega (arith, c.div_ceil-units.ensures, c.if-len-eq0.false) in
    let same : n ≡ units_of c.args.len = omega (arith, c.div_ceil-units.ensures) in
    subst (λ s. IsFirstRun s (units_of c.args.len) (record { start = c.unwrap_or-start.result; units = n })) c.self.view_is (first_run inside.units n (units_of c.args.len) c.unwrap_or-start.result es some same c.if-self-start.false order run)
