use Rattle.std.proofs.Common.{sym, ap, subst, ◌∙◌}
use Rattle.blob_store.specs.Claims.{Claims, AreApart, IsClaim, without_extent}
use Rattle.blob_store.specs.inside.Areas.{extents_in}
use Rattle.blob_store.proofs.Placed.{in_order_of}
use Rattle.blob_store.proofs.Claimed.{found, are_apart, taken}
use Rattle.blob_store.proofs.store.BlobStore.release.Goals as goal

pub remove-requires-clause-there : goal.remove-requires-clause-there
remove-requires-clause-there c = found c.self.inside.units c.args.extent.start c.args.extent.units (extents_in c.self.inside.area) (subst (λ s. IsClaim s c.args.extent.start c.args.extent.units) (sym c.self.view_is) (c.requires c.if-extent-gt0.true))

pub returns-then-extent-gt0-clause-apart : goal.returns-then-extent-gt0-clause-apart
returns-then-extent-gt0-clause-apart c = are_apart c.self.inside.units (extents_in c.remove.new.self) (in_order_of 0 c.self.inside.units c.remove.new.self c.remove.ensures.placed)

pub returns-else-extent-gt0-clause-apart : goal.returns-else-extent-gt0-clause-apart
returns-else-extent-gt0-clause-apart c = subst AreApart c.self.view_is (are_apart c.self.inside.units (extents_in c.self.inside.area) (in_order_of 0 c.self.inside.units c.self.inside.area c.self.invariant.1))

pub returns-then-extent-gt0-clause-released : goal.returns-then-extent-gt0-clause-released
returns-then-extent-gt0-clause-released c =
    taken c.self.inside.units c.args.extent (extents_in c.self.inside.area) (extents_in c.remove.new.self) c.if-extent-gt0.true c.remove.ensures.gone
    ∙ ap (λ (s : Claims). without_extent s c.args.extent) c.self.view_is
