use Rattle.ddc_model.specs.State.{blob_name}
use Rattle.ddc_state.proofs.Adding.{row_claimed, row_released, nothing_released}
use Rattle.ddc_state.proofs.index.Index.remove_blob.Goals as goal

pub release-requires : goal.release-requires
release-requires c = row_claimed c.self.inside.area c.self.inside.limits.units c.self.inside.blobs c.self.invariant.claimed (blob_name c.args.space.now c.args.hash.now) c.in-Some.row c.in-Some.ensures.row

pub invariant_of-self : goal.invariant_of-self
invariant_of-self c =
    record {
      kept = c.self.invariant.kept;
      claimed = row_released c.self.inside.area c.self.inside.limits.units c.self.inside.blobs c.self.invariant.claimed (blob_name c.args.space.now c.args.hash.now) c.in-Some.row c.release.new.self c.remove.new.self
          c.in-Some.ensures.row c.release.ensures.released c.remove.ensures.gone;
    }

pub invariant_of-self-in_default : goal.invariant_of-self-in_default
invariant_of-self-in_default c =
    record { kept = c.self.invariant.kept; claimed = nothing_released c.self.inside.area c.self.inside.limits.units c.self.inside.blobs c.self.invariant.claimed (blob_name c.args.space.now c.args.hash.now) c.remove.new.self c.in_default.ensures.row c.remove.ensures.gone }
