use Rattle.std.proofs.Common.{rules, ◌≤◌, ◌+◌, sym, subst, arith, ◌^◌}
use Rattle.blob_store.specs.Claims.{AreApart, IsFree}
use Rattle.blob_store.specs.inside.Areas.{extents_in}
use Rattle.blob_store.proofs.Placed.{in_order_of}
use Rattle.blob_store.proofs.Runs.{in_order_weaker}
use Rattle.blob_store.proofs.Claimed.{free_before, free_after_all, are_apart}
use Rattle.blob_store.proofs.store.BlobStore.is_free.Goals as goal

pub next_after-requires-clause-ordered : goal.next_after-requires-clause-ordered
next_after-requires-clause-ordered c =
    let inside = c.self.inside in
    in_order_weaker 0 inside.units 0 (2 ^ 51) (extents_in inside.area) (omega arith) c.self.invariant.0 (in_order_of 0 inside.units inside.area c.self.invariant.1)

pub returns-else-units-eq0-clause-free : goal.returns-else-units-eq0-clause-free
returns-else-units-eq0-clause-free c =
    let order = in_order_of 0 c.self.inside.units c.self.inside.area c.self.invariant.1 in
    let within : c.args.extent.start + c.args.extent.units ≤ c.self.inside.units = omega (arith, c.if-extent-self.false, c.if-self-extent.false) in
    let both = free_before c.self.inside.units c.args.extent c.in-Some.next (extents_in c.self.inside.area) (omega (arith, c.if-units-eq0.false)) within order c.in-Some.ensures in
    (λ yes. subst (λ s. IsFree s c.args.extent) c.self.view_is (both.0 yes), λ free. both.1 (subst (λ s. IsFree s c.args.extent) (sym c.self.view_is) free))

pub returns-in-None-clause-free : goal.returns-in-None-clause-free
returns-in-None-clause-free c =
    let within : c.args.extent.start + c.args.extent.units ≤ c.self.inside.units = omega (arith, c.if-extent-self.false, c.if-self-extent.false) in
    (λ yes. subst (λ s. IsFree s c.args.extent) c.self.view_is (free_after_all c.self.inside.units c.args.extent (extents_in c.self.inside.area) within c.in-None.ensures), λ free. search rules)

pub returns-then-extent-self-clause-apart : goal.returns-then-extent-self-clause-apart
returns-then-extent-self-clause-apart c = subst AreApart c.self.view_is (are_apart c.self.inside.units (extents_in c.self.inside.area) (in_order_of 0 c.self.inside.units c.self.inside.area c.self.invariant.1))

pub returns-then-units-eq0-clause-apart : goal.returns-then-units-eq0-clause-apart
returns-then-units-eq0-clause-apart c = subst AreApart c.self.view_is (are_apart c.self.inside.units (extents_in c.self.inside.area) (in_order_of 0 c.self.inside.units c.self.inside.area c.self.invariant.1))

pub returns-else-units-eq0-clause-apart : goal.returns-else-units-eq0-clause-apart
returns-else-units-eq0-clause-apart c = subst AreApart c.self.view_is (are_apart c.self.inside.units (extents_in c.self.inside.area) (in_order_of 0 c.self.inside.units c.self.inside.area c.self.invariant.1))

pub returns-in-None-clause-apart : goal.returns-in-None-clause-apart
returns-in-None-clause-apart c = subst AreApart c.self.view_is (are_apart c.self.inside.units (extents_in c.self.inside.area) (in_order_of 0 c.self.inside.units c.self.inside.area c.self.invariant.1))
