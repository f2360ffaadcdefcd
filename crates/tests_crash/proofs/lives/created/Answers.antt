use Rattle.std.proofs.Common.{subst}
use Rattle.ddc_disk.specs.MemDisks.{told_by}
use Rattle.ddc_model.specs.declared.rows.Limits.{Limits}
use Rattle.ddc_model.specs.Limits.{standard}
use Rattle.ddc_book.specs.Loading.{IsCreated}
use Rattle.std.specs.Prelude.{true}
use Rattle.tests_crash.proofs.Honest.{honest_made, made_before}
use Rattle.tests_crash.proofs.lives.created.Goals as goal

pub returns-in-Ok-clause-honest : goal.returns-in-Ok-clause-honest
returns-in-Ok-clause-honest c =
    honest_made c.new_devices.result standard c.in-Ok.book (subst (λ (l : Limits). IsCreated true told_by c.new_devices.result l c.in-Ok.book) c.standard.ensures c.in-Ok.ensures.created)

pub returns-in-Ok-clause-before : goal.returns-in-Ok-clause-before
returns-in-Ok-clause-before c =
    made_before c.new_devices.result c.new_devices.ensures standard c.in-Ok.book (subst (λ (l : Limits). IsCreated true told_by c.new_devices.result l c.in-Ok.book) c.standard.ensures c.in-Ok.ensures.created)
