use Rattle.std.proofs.Common.{◌≡◌, ◌<◌, refl, sym, ap, subst, ◌∙◌, ◌++◌, ◌^◌, arith}
use Rattle.blob_store.specs.inside.Areas.{extents_in, listed_held}
use Rattle.blob_store.specs.inside.Runs.{AreInOrder, next_after, end_of}
use Rattle.blob_store.proofs.Parts.{count_parts, parts_in, opened}
use Rattle.blob_store.proofs.Runs.{in_order_weaker, in_order_front, in_order_back}
use Rattle.blob_store.proofs.Spanned.{next_quits, next_front, next_back}
use Rattle.blob_store.proofs.area.Area.+next_after.Goals as goal

pub returns-then-parted-at : goal.returns-then-parted-at
returns-then-parted-at t c =
    let v = c.deref-parted.result.now in
    let o = opened c.args.self.now _ v _ c.in-Parted.is c.deref-parted.ensures refl (λ s. s) refl c.requires.spanned in
    let order : AreInOrder 0 (2 ^ 51) (parts_in v) = subst (AreInOrder 0 (2 ^ 51)) o.full c.requires.ordered in
    sym (ap (next_after c.args.at) o.full ∙ next_quits c.args.at 0 (2 ^ 51) (parts_in v) v.span (sym o.spans.0) c.if-parted-at.true order)

pub next_after-requires : goal.next_after-requires
next_after-requires t c =
    let v = c.deref-parted.result.now in
    let o = opened c.args.self.now _ v _ c.in-Parted.is c.deref-parted.ensures refl (λ s. s) refl c.requires.spanned in
    let order : AreInOrder 0 (2 ^ 51) (parts_in v) = subst (AreInOrder 0 (2 ^ 51)) o.full c.requires.ordered in
    let at : count_parts c.args.self.now ≡ t = c.decreases in
    let smaller : count_parts v.left < t = omega (arith, o.left, at) in
    (smaller, (o.spans.1, in_order_front 0 (2 ^ 51) (extents_in v.left) (listed_held v.held ++ extents_in v.right) order))

pub returns-in-Some : goal.returns-in-Some
returns-in-Some t c =
    let v = c.deref-parted.result.now in
    let o = opened c.args.self.now _ v _ c.in-Parted.is c.deref-parted.ensures refl (λ s. s) refl c.requires.spanned in
    sym (ap (next_after c.args.at) o.full ∙ next_front c.args.at c.in-Some.extent (extents_in v.left) (listed_held v.held ++ extents_in v.right) (sym c.in-Some.ensures))

pub next_held-requires-2 : goal.next_held-requires-2
next_held-requires-2 t c =
    let v = c.deref-parted.result.now in
    let o = opened c.args.self.now _ v _ c.in-Parted.is c.deref-parted.ensures refl (λ s. s) refl c.requires.spanned in
    let order : AreInOrder 0 (2 ^ 51) (parts_in v) = subst (AreInOrder 0 (2 ^ 51)) o.full c.requires.ordered in
    let from = end_of 0 (extents_in v.left) in
    in_order_weaker from (2 ^ 51) 0 (2 ^ 51) (listed_held v.held) (omega arith) (omega arith)
    (in_order_front from (2 ^ 51) (listed_held v.held) (extents_in v.right) (in_order_back 0 (2 ^ 51) (extents_in v.left) (listed_held v.held ++ extents_in v.right) order))

pub returns-in-Some-next_held : goal.returns-in-Some-next_held
returns-in-Some-next_held t c =
    let v = c.deref-parted.result.now in
    let o = opened c.args.self.now _ v _ c.in-Parted.is c.deref-parted.ensures refl (λ s. s) refl c.requires.spanned in
    sym (ap (next_after c.args.at) o.full ∙ next_back c.args.at (extents_in v.left) (listed_held v.held ++ extents_in v.right) (sym c.in_default.ensures)
    ∙ next_front c.args.at c.in-Some-next_held.extent (listed_held v.held) (extents_in v.right) (sym c.in-Some-next_held.ensures))

pub next_after-requires-2 : goal.next_after-requires-2
next_after-requires-2 t c =
    let v = c.deref-parted.result.now in
    let o = opened c.args.self.now _ v _ c.in-Parted.is c.deref-parted.ensures refl (λ s. s) refl c.requires.spanned in
    let order : AreInOrder 0 (2 ^ 51) (parts_in v) = subst (AreInOrder 0 (2 ^ 51)) o.full c.requires.ordered in
    let from = end_of 0 (extents_in v.left) in
    let at : count_parts c.args.self.now ≡ t = c.decreases in
    let smaller : count_parts v.right < t = omega (arith, o.right, at) in (
      smaller,
      (
        o.spans.2,
        in_order_weaker (end_of from (listed_held v.held)) (2 ^ 51) 0 (2 ^ 51) (extents_in v.right) (omega arith) (omega arith)
            (in_order_back from (2 ^ 51) (listed_held v.held) (extents_in v.right) (in_order_back 0 (2 ^ 51) (extents_in v.left) (listed_held v.held ++ extents_in v.right) order)),
      ),
    )

pub returns : goal.returns
returns t c =
    let v = c.deref-parted.result.now in
    let o = opened c.args.self.now _ v _ c.in-Parted.is c.deref-parted.ensures refl (λ s. s) refl c.requires.spanned in
    c.next_after-2.ensures ∙ sym (ap (next_after c.args.at) o.full ∙ next_back c.args.at (extents_in v.left) (listed_held v.held ++ extents_in v.right) (sym c.in_default.ensures)
    ∙ next_back c.args.at (listed_held v.held) (extents_in v.right) (sym c.in_default-next_held.ensures))
