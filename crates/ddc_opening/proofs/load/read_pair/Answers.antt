use Rattle.std.proofs.Common.{◌≡◌, sym, subst}
use Rattle.std.specs.Prelude.{Result, Ok, Err, IfOk, OnOk, false}
use Rattle.std.specs.Result.{is_err}
use Rattle.ddc_disk.specs.Disk.{IsSure}
use Rattle.ddc_disk.specs.Told.{told_file, at_told}
use Rattle.ddc_journal.specs.Pairs.{IsPairReady}
use Rattle.ddc_opening.proofs.Both.{of_told}
use Rattle.ddc_opening.proofs.load.read_pair.Goals as goal

-- what an Ok tells
when_ok : {T E : Type 0} (r : Result T E) (P : Type 0) → is_err r ≡ false → OnOk r P → P
when_ok (Ok x) P ok holds = holds
when_ok (Err e) P ok holds = cc ok

in_ok : {T E : Type 0} (r : Result T E) (P Q : T → Type 0) → ((x : T) → P x → Q x) → IfOk r P → IfOk r Q
in_ok (Ok x) P Q imp holds = imp x holds
in_ok (Err e) P Q imp holds = tt

pub returns-clause-ready : goal.returns-clause-ready
returns-clause-ready g c = in_ok c.load.result _ _ (λ r ready tell.
    let m = g.D.Disk.meaning in
    let told = g.met.D.Disk.told in
    let old = c.args.devices.now in
    let mid = c.sync_blobs.new.devices in
    let new = c.load.new.devices in
    let blobs = told_file (m old.blobs).held (told old.blobs tell) in
    let sure = at_told (m old.blobs).held (λ file. IsSure (m mid.blobs) file) blobs.0 blobs.1 (when_ok c.sync_blobs.result _ (sym c.if-is_err.ensures.value) c.sync_blobs.ensures.sure) in
    let looks = c.load.ensures.looks in
    (of_told m mid (IsPairReady m new r.0 r.1) (told mid.first tell) (told mid.second tell) ready, (blobs.0, subst (λ d. IsSure (m d) blobs.0) (sym looks.blobs) sure)))
    c.load.ensures.ready
