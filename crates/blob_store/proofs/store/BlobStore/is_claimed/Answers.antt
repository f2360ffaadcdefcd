use Rattle.std.proofs.Common.{◌^◌, Some, sym, ap, subst, ◌∙◌, arith}
use Rattle.ddc_model.specs.declared.rows.Extent.{Extent}
use Rattle.blob_store.specs.Claims.{IsClaim}
use Rattle.blob_store.specs.inside.Areas.{extents_in}
use Rattle.blob_store.proofs.Placed.{in_order_of}
use Rattle.blob_store.proofs.Runs.{in_order_weaker, some_is_not_none}
use Rattle.blob_store.proofs.Claimed.{claimed_next, next_claimed, same_extent, same_when, when_same}
use Rattle.blob_store.proofs.store.BlobStore.is_claimed.Goals as goal

pub next_after-requires-clause-ordered : goal.next_after-requires-clause-ordered
next_after-requires-clause-ordered c =
    let inside = c.self.inside in
    in_order_weaker 0 inside.units 0 (2 ^ 51) (extents_in inside.area) (omega arith) c.self.invariant.0 (in_order_of 0 inside.units inside.area c.self.invariant.1)

pub returns-in-None : goal.returns-in-None
returns-in-None c =
    let inside = c.self.inside in
    let order = in_order_of 0 inside.units inside.area c.self.invariant.1 in (
      λ no. absurd (cc),
      λ claimed. absurd (some_is_not_none c.args.extent
          (sym (claimed_next inside.units c.args.extent (extents_in inside.area) order (subst (λ s. IsClaim s c.args.extent.start c.args.extent.units) (sym c.self.view_is) (claimed (omega (arith, c.if-extent-eq0.false))))) ∙ sym c.in-None.ensures)),
    )

pub returns-in-Some : goal.returns-in-Some
returns-in-Some c =
    let inside = c.self.inside in
    let es = extents_in inside.area in
    let order = in_order_of 0 inside.units inside.area c.self.invariant.1 in (
      λ yes _.
          let same = same_when c.in-Some.next c.args.extent (sym c.eq.ensures ∙ yes) in
          subst (λ s. IsClaim s c.args.extent.start c.args.extent.units) c.self.view_is
          (next_claimed inside.units c.args.extent es order (sym c.in-Some.ensures ∙ ap (λ (e : Extent). Some e) same)),
      λ claimed.
          let there = claimed_next inside.units c.args.extent es order (subst (λ s. IsClaim s c.args.extent.start c.args.extent.units) (sym c.self.view_is) (claimed (omega (arith, c.if-extent-eq0.false)))) in
          c.eq.ensures ∙ when_same c.in-Some.next c.args.extent (same_extent c.in-Some.next c.args.extent (c.in-Some.ensures ∙ there)),
    )
