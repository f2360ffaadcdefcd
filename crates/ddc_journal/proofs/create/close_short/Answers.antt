use Rattle.std.proofs.Common.{ℕ}
use Rattle.std.specs.Prelude.{replicate}
use Rattle.ddc_disk.specs.Disk.{overwritten}
use Rattle.ddc_disk.specs.Since.{then_runs}
use Rattle.ddc_journal.specs.inside.Closing.{IsUnmade}
use Rattle.ddc_journal.proofs.Making.{sure_run, sure_after, short_torn, zeros_torn}
use Rattle.ddc_journal.proofs.create.close_short.Goals as goal

pub returns-in_err-write_sure-2-clause-any_moment : goal.returns-in_err-write_sure-2-clause-any_moment
returns-in_err-write_sure-2-clause-any_moment g c file sure lt =
    let old = g.D.Disk.meaning c.args.disk.now in
    let mid = g.D.Disk.meaning c.write_sure.new.disk in
    let new = g.D.Disk.meaning c.write_sure-2.new.disk in
    let zeros = replicate {A = ℕ} 20 0 in
    let first = sure_run old mid file 0 20 IsUnmade sure c.write_sure.ensures.any_moment (short_torn file lt) in
    let between = sure_after old mid file zeros 0 sure c.in_ok-write_sure.ensures.durable in
    let second = sure_run mid new (overwritten file 0 zeros) 20 1 IsUnmade between c.write_sure-2.ensures.any_moment (zeros_torn file lt) in
    then_runs old.line mid.line new.line IsUnmade IsUnmade first second (λ image is. is)

pub returns-clause-any_moment : goal.returns-clause-any_moment
returns-clause-any_moment g c file sure lt =
    let old = g.D.Disk.meaning c.args.disk.now in
    let mid = g.D.Disk.meaning c.write_sure.new.disk in
    let new = g.D.Disk.meaning c.write_sure-2.new.disk in
    let zeros = replicate {A = ℕ} 20 0 in
    let first = sure_run old mid file 0 20 IsUnmade sure c.write_sure.ensures.any_moment (short_torn file lt) in
    let between = sure_after old mid file zeros 0 sure c.in_ok-write_sure.ensures.durable in
    let second = sure_run mid new (overwritten file 0 zeros) 20 1 IsUnmade between c.write_sure-2.ensures.any_moment (zeros_torn file lt) in
    then_runs old.line mid.line new.line IsUnmade IsUnmade first second (λ image is. is)
