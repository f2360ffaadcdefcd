use Rattle.std.specs.Prelude.{true}
use Rattle.std.proofs.Common.{subst}
use Rattle.ddc_disk.specs.MemDisks.{told_by}
use Rattle.ddc_model.specs.declared.rows.Limits.{Limits}
use Rattle.ddc_model.specs.Limits.{standard}
use Rattle.ddc_book.specs.Loading.{IsLoaded}
use Rattle.tests_crash.proofs.Honest.{honest_loaded}
use Rattle.tests_crash.proofs.lives.loaded.Goals as goal

pub returns-in-Ok-clause-honest : goal.returns-in-Ok-clause-honest
returns-in-Ok-clause-honest c =
    honest_loaded c.args.devices standard c.in-Ok.book c.requires (subst (λ (l : Limits). IsLoaded true told_by c.args.devices l c.in-Ok.book) c.standard.ensures c.in-Ok.ensures.loaded)
