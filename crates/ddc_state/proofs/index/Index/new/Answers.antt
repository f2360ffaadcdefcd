use Rattle.std.proofs.Common.{sym, subst}
use Rattle.std.specs.FinMap.{FinMap, empty}
use Rattle.ddc_model.specs.declared.rows.Blob.{Blob}
use Rattle.ddc_model.specs.Keys.{blob_cmp}
use Rattle.blob_store.specs.Claims.{Claims}
use Rattle.ddc_state.specs.inside.Claimed.{AreClaims}
use Rattle.ddc_state.proofs.Claiming.{nothing_claimed}
use Rattle.ddc_state.proofs.index.Index.new.Goals as goal

pub invariant_of-result : goal.invariant_of-result
invariant_of-result c =
    let claims = subst (λ (blobs : FinMap blob_cmp Blob). AreClaims c.new-3.result c.args.limits.units blobs) (sym c.new-2.ensures)
    (subst (λ (claims : Claims). AreClaims claims c.args.limits.units empty) (sym c.new-3.ensures) (nothing_claimed c.args.limits.units c.requires.units)) in
    record { kept = c.requires.kept; claimed = claims }
