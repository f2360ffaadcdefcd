use Rattle.std.proofs.Common.{rules, ◌≡◌, true, false, subst}
use Rattle.std.specs.Prelude.{◌⊎◌}
use Rattle.ddc_names.specs.Causes.{Rose}
use Rattle.ddc_disk.specs.Images.{devices_faults}
use Rattle.ddc_journal.specs.Pairs.{IfBoth}
use Rattle.ddc_model.specs.declared.rows.Limits.{Limits}
use Rattle.ddc_opening.specs.Opening.{OpenFaultOf}
use Rattle.ddc_opening.specs.Loading.{Creates}
use Rattle.ddc_book.specs.Loading.{IsCreated, IsLoaded}
use Rattle.ddc_opening.specs.declared.fault.OpenFault.TheVariants.{DiskFailed}
use Rattle.ddc_command.specs.inside.Parts.{is_unmade}
use Rattle.ddc_command.proofs.Finding.{finds_loaded, finds_created, fails_unopened, fails_uncreated}
use Rattle.ddc_command.proofs.top.found_store.Goals as goal

pub returns-in-Ok-clause-found : goal.returns-in-Ok-clause-found
returns-in-Ok-clause-found g c =
    let P : Limits → Type 0 = λ l. IsLoaded g.D.Disk.tells g.D.Disk.meaning c.args.devices l c.in-Ok.found in
    finds_loaded g.D.Disk.tells g.D.Disk.meaning c.args.devices g.met.D.Disk.rests g.met.D.Disk.reads g.met.D.Disk.told c.in-Ok.found (subst P c.standard.ensures c.in-Ok.ensures.loaded)

pub returns-then-not-is_unmade-clause-fails : goal.returns-then-not-is_unmade-clause-fails
returns-then-not-is_unmade-clause-fails g c =
    let old = devices_faults g.D.Disk.meaning c.args.devices in
    let new = devices_faults g.D.Disk.meaning c.in-Err.devices in
    let P : Limits → Type 0 = λ l. ((c.in-Err.fault ≡ DiskFailed) × Rose old new) ⊎ IfBoth g.D.Disk.meaning c.args.devices (λ first second. OpenFaultOf l first second c.in-Err.fault) in
    let off : is_unmade c.in-Err.fault ≡ false = search rules in
    fails_unopened g.D.Disk.tells g.D.Disk.meaning c.args.devices c.one_pair_reading.ensures.none c.in-Err.devices c.in-Err.fault off c.in-Err.ensures.back (subst P c.standard.ensures c.in-Err.ensures.fault) c.in-Err.ensures.cause

pub returns-in-Ok-create-clause-found : goal.returns-in-Ok-create-clause-found
returns-in-Ok-create-clause-found g c =
    let old = devices_faults g.D.Disk.meaning c.args.devices in
    let mid = devices_faults g.D.Disk.meaning c.in-Err.devices in
    let P : Limits → Type 0 = λ l. ((c.in-Err.fault ≡ DiskFailed) × Rose old mid) ⊎ IfBoth g.D.Disk.meaning c.args.devices (λ first second. OpenFaultOf l first second c.in-Err.fault) in
    let Q : Limits → Type 0 = λ l. IsCreated g.D.Disk.tells g.D.Disk.meaning c.in-Err.devices l c.in-Ok-create.book in
    let on : is_unmade c.in-Err.fault ≡ true = search rules in
    finds_created g.D.Disk.tells g.D.Disk.meaning c.args.devices c.one_pair_reading.ensures.none c.in-Err.devices c.in-Err.fault on c.in-Err.ensures.back (subst P c.standard.ensures c.in-Err.ensures.fault)
    c.in-Ok-create.book g.met.D.Disk.told (subst Q c.standard-in-Err.ensures c.in-Ok-create.ensures.created)

pub returns-in-Err-create-clause-fails : goal.returns-in-Err-create-clause-fails
returns-in-Err-create-clause-fails g c =
    let old = devices_faults g.D.Disk.meaning c.args.devices in
    let mid = devices_faults g.D.Disk.meaning c.in-Err.devices in
    let P : Limits → Type 0 = λ l. ((c.in-Err.fault ≡ DiskFailed) × Rose old mid) ⊎ IfBoth g.D.Disk.meaning c.args.devices (λ first second. OpenFaultOf l first second c.in-Err.fault) in
    let Q : Limits → Type 0 = λ l. Creates g.D.Disk.meaning c.in-Err.devices l c.in-Err-create.devices in
    let on : is_unmade c.in-Err.fault ≡ true = search rules in
    fails_uncreated g.D.Disk.tells g.D.Disk.meaning c.args.devices c.one_pair_reading.ensures.none c.in-Err.devices c.in-Err.fault on c.in-Err.ensures.back (subst P c.standard.ensures c.in-Err.ensures.fault)
    c.in-Err-create.devices c.in-Err-create.fault (subst Q c.standard-in-Err.ensures c.in-Err-create.ensures.any_moment) c.in-Err-create.ensures.fault
