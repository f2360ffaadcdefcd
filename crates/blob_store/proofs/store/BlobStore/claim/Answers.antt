use Rattle.std.proofs.Common.{sym, ap, subst, ◌∙◌}
use Rattle.blob_store.specs.Claims.{Claims, AreApart, IsFree, with_extent}
use Rattle.blob_store.specs.inside.Areas.{extents_in}
use Rattle.blob_store.proofs.Placed.{in_order_of}
use Rattle.blob_store.proofs.Claimed.{misses_of_free, are_apart, added}
use Rattle.blob_store.proofs.store.BlobStore.claim.Goals as goal

pub insert-requires-clause-free : goal.insert-requires-clause-free
insert-requires-clause-free c =
    let inside = c.self.inside in
    misses_of_free inside.units inside.units c.args.extent (extents_in inside.area) c.if-extent-gt0.true (in_order_of 0 inside.units inside.area c.self.invariant.1) (subst (λ s. IsFree s c.args.extent) (sym c.self.view_is) c.requires)

pub returns-in_err-insert-clause-apart : goal.returns-in_err-insert-clause-apart
returns-in_err-insert-clause-apart c = are_apart c.self.inside.units (extents_in c.insert.new.self) (in_order_of 0 c.self.inside.units c.insert.new.self c.insert.ensures.placed)

pub returns-in_ok-insert-clause-apart : goal.returns-in_ok-insert-clause-apart
returns-in_ok-insert-clause-apart c = are_apart c.self.inside.units (extents_in c.insert.new.self) (in_order_of 0 c.self.inside.units c.insert.new.self c.insert.ensures.placed)

pub returns-else-extent-gt0-clause-apart : goal.returns-else-extent-gt0-clause-apart
returns-else-extent-gt0-clause-apart c = subst AreApart c.self.view_is (are_apart c.self.inside.units (extents_in c.self.inside.area) (in_order_of 0 c.self.inside.units c.self.inside.area c.self.invariant.1))

pub returns-in_ok-insert-clause-ok : goal.returns-in_ok-insert-clause-ok
returns-in_ok-insert-clause-ok c =
    added c.self.inside.units c.args.extent (extents_in c.self.inside.area) (extents_in c.insert.new.self) c.if-extent-gt0.true c.in_ok-insert.ensures.ok
    ∙ ap (λ (s : Claims). with_extent s c.args.extent) c.self.view_is
