use Rattle.std.proofs.Common.{sym, subst, refl}
use Rattle.std.specs.FinMap.{FinMap, get}
use Rattle.ddc_model.specs.declared.rows.Blob.{Blob}
use Rattle.ddc_model.specs.Keys.{blob_cmp}
use Rattle.ddc_model.specs.State.{blob_name}
use Rattle.ddc_state.specs.inside.Claimed.{AreClaims}
use Rattle.ddc_state.proofs.Claiming.{pinned_claims}
use Rattle.ddc_state.proofs.index.Index.pin_blob.Goals as goal

pub invariant_of-self : goal.invariant_of-self
invariant_of-self c =
    let name = blob_name c.args.space.now c.args.hash.now in
    let blobs = c.self.inside.blobs in
    let claims = subst (λ (m : FinMap blob_cmp Blob). AreClaims c.self.inside.area c.self.inside.limits.units m) (sym c.pin.ensures)
    (pinned_claims c.self.inside.area c.self.inside.limits.units blobs c.self.invariant.claimed name c.args.hour (get blobs name) refl) in
    record { kept = c.self.invariant.kept; claimed = claims }
