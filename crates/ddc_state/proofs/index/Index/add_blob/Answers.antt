use Rattle.std.proofs.Common.{◌≡◌, true, sym, subst}
use Rattle.ddc_model.specs.Entries.{is_fresh}
use Rattle.blob_store.specs.Claims.{Claims, IsClaimed}
use Rattle.ddc_state.specs.Views.{IndexView}
use Rattle.ddc_state.specs.contracts.index.Index.{the_view}
use Rattle.ddc_state.proofs.Claims.{now_claimed}
use Rattle.ddc_state.proofs.Adding.{fresh_free, fresh_added, fresh_refused}
use Rattle.ddc_state.proofs.index.Index.add_blob.Goals as goal

pub claim-requires : goal.claim-requires
claim-requires c =
    let fresh = subst (λ (index : IndexView). is_fresh index.state c.args.space.now c.args.blob.now ≡ true) (sym c.self.view_is) c.requires in
    fresh_free c.self.inside.area (the_view c.self.inside).state c.self.invariant.claimed c.args.space.now c.args.blob.now c.args.hour c.in_ok-kept.kept fresh c.in_ok-kept.ensures

pub release-requires : goal.release-requires
release-requires c = subst (λ (claims : Claims). IsClaimed claims c.in_ok-kept.kept.row.extent) (sym c.in_ok-claim.ensures.ok) (now_claimed c.self.inside.area c.in_ok-kept.kept.row.extent)

pub invariant_of-self-in-Err : goal.invariant_of-self-in-Err
invariant_of-self-in-Err c =
    let fresh = subst (λ (index : IndexView). is_fresh index.state c.args.space.now c.args.blob.now ≡ true) (sym c.self.view_is) c.requires in
    record {
      kept = c.self.invariant.kept;
      claimed = fresh_refused c.self.inside.area (the_view c.self.inside).state c.self.invariant.claimed c.args.space.now c.args.blob.now c.args.hour c.in_ok-kept.kept fresh c.in_ok-kept.ensures
          c.claim.new.self c.release.new.self c.add.new.self c.in_ok-claim.ensures.ok c.release.ensures.released c.in-Err.ensures.err;
    }

pub invariant_of-self-in_default : goal.invariant_of-self-in_default
invariant_of-self-in_default c =
    let fresh = subst (λ (index : IndexView). is_fresh index.state c.args.space.now c.args.blob.now ≡ true) (sym c.self.view_is) c.requires in
    record {
      kept = c.self.invariant.kept;
      claimed = fresh_added c.self.inside.area (the_view c.self.inside).state c.self.invariant.claimed c.args.space.now c.args.blob.now c.args.hour c.in_ok-kept.kept fresh c.in_ok-kept.ensures
          c.claim.new.self c.add.new.self c.in_ok-claim.ensures.ok c.in_default.ensures.ok;
    }
