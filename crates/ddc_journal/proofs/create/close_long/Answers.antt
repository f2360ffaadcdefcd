use Rattle.std.proofs.Common.{◌≡◌, ◌≤◌, ◌+◌, List, ℕ, sym, ◌∙◌, arith}
use Rattle.std.specs.Prelude.{slice_index}
use Rattle.ddc_disk.specs.Since.{then_runs}
use Rattle.ddc_disk.specs.Told.{at_told}
use Rattle.ddc_journal.specs.Journal.{rank}
use Rattle.ddc_journal.proofs.Making.{kept_sure, calm_run, sure_run, long_torn, long_closed}
use Rattle.std.specs.Prelude.{EachIndex}
use Rattle.ddc_journal.proofs.create.close_long.Goals as goal

pub returns-in_err-write_sure-clause-any_moment : goal.returns-in_err-write_sure-clause-any_moment
returns-in_err-write_sure-clause-any_moment g c file sure le =
    let P : List ℕ → Type 0 = λ image. rank image ≤ rank file in
    let old = g.D.Disk.meaning c.args.disk.now in
    let mid = g.D.Disk.meaning c.read.new.self in
    let new = g.D.Disk.meaning c.write_sure.new.disk in
    let sure_mid = kept_sure old mid file sure c.read.ensures.held c.read.ensures.calm in
    let bytes = at_told old.held (λ f. EachIndex c.read.new.into (λ k. slice_index c.read.new.into k ≡ slice_index f (20 + k))) file sure.held c.in_ok-read.ensures.bytes in
    let one : slice_index file 20 ≡ 1 = sym (bytes 0 (omega (arith, c.read.auto.into))) ∙ c.if-gate-eq1.true in
    let first = calm_run old mid file P (g.met.D.Disk.rests c.args.disk.now) sure (omega arith) c.read.ensures.time c.read.ensures.calm in
    let second = sure_run mid new file 20 1 P sure_mid c.write_sure.ensures.any_moment (long_torn file le one) in
    then_runs old.line mid.line new.line P P first second (λ image is. is)

pub returns-in_ok-write_sure-clause-any_moment : goal.returns-in_ok-write_sure-clause-any_moment
returns-in_ok-write_sure-clause-any_moment g c file sure le =
    let P : List ℕ → Type 0 = λ image. rank image ≤ rank file in
    let old = g.D.Disk.meaning c.args.disk.now in
    let mid = g.D.Disk.meaning c.read.new.self in
    let new = g.D.Disk.meaning c.write_sure.new.disk in
    let sure_mid = kept_sure old mid file sure c.read.ensures.held c.read.ensures.calm in
    let bytes = at_told old.held (λ f. EachIndex c.read.new.into (λ k. slice_index c.read.new.into k ≡ slice_index f (20 + k))) file sure.held c.in_ok-read.ensures.bytes in
    let one : slice_index file 20 ≡ 1 = sym (bytes 0 (omega (arith, c.read.auto.into))) ∙ c.if-gate-eq1.true in
    let first = calm_run old mid file P (g.met.D.Disk.rests c.args.disk.now) sure (omega arith) c.read.ensures.time c.read.ensures.calm in
    let second = sure_run mid new file 20 1 P sure_mid c.write_sure.ensures.any_moment (long_torn file le one) in
    then_runs old.line mid.line new.line P P first second (λ image is. is)

pub returns-else-gate-eq1-clause-closed : goal.returns-else-gate-eq1-clause-closed
returns-else-gate-eq1-clause-closed g c file sure le =
    let old = g.D.Disk.meaning c.args.disk.now in
    let mid = g.D.Disk.meaning c.read.new.self in
    let sure_mid = kept_sure old mid file sure c.read.ensures.held c.read.ensures.calm in
    let bytes = at_told old.held (λ f. EachIndex c.read.new.into (λ k. slice_index c.read.new.into k ≡ slice_index f (20 + k))) file sure.held c.in_ok-read.ensures.bytes in
    long_closed file le mid sure_mid (λ e. c.if-gate-eq1.false (bytes 0 (omega (arith, c.read.auto.into)) ∙ e))
