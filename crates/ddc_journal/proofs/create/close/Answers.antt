use Rattle.std.proofs.Common.{◌≡◌, ◌≤◌, List, ℕ, length, arith}
use Rattle.ddc_disk.specs.Since.{then_runs}
use Rattle.ddc_disk.specs.Told.{at_told}
use Rattle.ddc_journal.specs.Journal.{rank}
use Rattle.ddc_journal.specs.inside.Closing.{IsUnmade}
use Rattle.ddc_journal.proofs.Ranks.{rank_unmade}
use Rattle.ddc_journal.proofs.Making.{kept_sure, calm_run}
use Rattle.ddc_journal.proofs.create.close.Goals as goal

pub returns-in_err-len-clause-any_moment : goal.returns-in_err-len-clause-any_moment
returns-in_err-len-clause-any_moment g c file sure =
    let P : List ℕ → Type 0 = λ image. rank image ≤ rank file in
    let old = g.D.Disk.meaning c.args.disk.now in
    let mid = g.D.Disk.meaning c.len.new.self in
    calm_run old mid file P (g.met.D.Disk.rests c.args.disk.now) sure (omega arith) c.len.ensures.time c.len.ensures.calm

pub returns-in_err-close_short-clause-any_moment : goal.returns-in_err-close_short-clause-any_moment
returns-in_err-close_short-clause-any_moment g c file sure =
    let P : List ℕ → Type 0 = λ image. rank image ≤ rank file in
    let old = g.D.Disk.meaning c.args.disk.now in
    let mid = g.D.Disk.meaning c.len.new.self in
    let new = g.D.Disk.meaning c.close_short.new.disk in
    let first = calm_run old mid file P (g.met.D.Disk.rests c.args.disk.now) sure (omega arith) c.len.ensures.time c.len.ensures.calm in
    let sure_mid = kept_sure old mid file sure c.len.ensures.held c.len.ensures.calm in
    let size = at_told old.held (λ f. c.in_ok-len.field-0 ≡ length f) file sure.held c.in_ok-len.ensures.len in
    let second = c.close_short.ensures.any_moment file sure_mid (omega (arith, size, c.if-branch-lt-FRONT.true)) in
    then_runs old.line mid.line new.line P IsUnmade first second (λ image is. omega (arith, rank_unmade image is))

pub returns-in_ok-close_short-clause-any_moment : goal.returns-in_ok-close_short-clause-any_moment
returns-in_ok-close_short-clause-any_moment g c file sure =
    let P : List ℕ → Type 0 = λ image. rank image ≤ rank file in
    let old = g.D.Disk.meaning c.args.disk.now in
    let mid = g.D.Disk.meaning c.len.new.self in
    let new = g.D.Disk.meaning c.close_short.new.disk in
    let first = calm_run old mid file P (g.met.D.Disk.rests c.args.disk.now) sure (omega arith) c.len.ensures.time c.len.ensures.calm in
    let sure_mid = kept_sure old mid file sure c.len.ensures.held c.len.ensures.calm in
    let size = at_told old.held (λ f. c.in_ok-len.field-0 ≡ length f) file sure.held c.in_ok-len.ensures.len in
    let second = c.close_short.ensures.any_moment file sure_mid (omega (arith, size, c.if-branch-lt-FRONT.true)) in
    then_runs old.line mid.line new.line P IsUnmade first second (λ image is. omega (arith, rank_unmade image is))

pub returns-in_err-close_long-clause-any_moment : goal.returns-in_err-close_long-clause-any_moment
returns-in_err-close_long-clause-any_moment g c file sure =
    let P : List ℕ → Type 0 = λ image. rank image ≤ rank file in
    let old = g.D.Disk.meaning c.args.disk.now in
    let mid = g.D.Disk.meaning c.len.new.self in
    let new = g.D.Disk.meaning c.close_long.new.disk in
    let first = calm_run old mid file P (g.met.D.Disk.rests c.args.disk.now) sure (omega arith) c.len.ensures.time c.len.ensures.calm in
    let sure_mid = kept_sure old mid file sure c.len.ensures.held c.len.ensures.calm in
    let size = at_told old.held (λ f. c.in_ok-len.field-0 ≡ length f) file sure.held c.in_ok-len.ensures.len in
    let second = c.close_long.ensures.any_moment file sure_mid (omega (arith, size, c.if-branch-lt-FRONT.false)) in
    then_runs old.line mid.line new.line P P first second (λ image is. is)

pub returns-in_ok-close_long-clause-any_moment : goal.returns-in_ok-close_long-clause-any_moment
returns-in_ok-close_long-clause-any_moment g c file sure =
    let P : List ℕ → Type 0 = λ image. rank image ≤ rank file in
    let old = g.D.Disk.meaning c.args.disk.now in
    let mid = g.D.Disk.meaning c.len.new.self in
    let new = g.D.Disk.meaning c.close_long.new.disk in
    let first = calm_run old mid file P (g.met.D.Disk.rests c.args.disk.now) sure (omega arith) c.len.ensures.time c.len.ensures.calm in
    let sure_mid = kept_sure old mid file sure c.len.ensures.held c.len.ensures.calm in
    let size = at_told old.held (λ f. c.in_ok-len.field-0 ≡ length f) file sure.held c.in_ok-len.ensures.len in
    let second = c.close_long.ensures.any_moment file sure_mid (omega (arith, size, c.if-branch-lt-FRONT.false)) in
    then_runs old.line mid.line new.line P P first second (λ image is. is)
