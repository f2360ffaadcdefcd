use Rattle.std.proofs.Common.{◌≡◌, ◌<◌, refl, sym, ap, subst, ◌∙◌, ◌++◌, ◌^◌, arith, ℕ}
use Rattle.blob_store.specs.inside.Areas.{extents_in, listed_held}
use Rattle.blob_store.specs.inside.Runs.{AreInOrder, first_gap, end_of}
use Rattle.blob_store.proofs.Parts.{count_parts, parts_in, opened}
use Rattle.blob_store.proofs.Runs.{in_order_weaker, in_order_front, in_order_back}
use Rattle.blob_store.proofs.Spanned.{span_below, gap_begins, gap_quits, gap_front, gap_back}
use Rattle.blob_store.proofs.area.Area.+first_gap.Goals as goal

pub overflow_sub-parted : goal.overflow_sub-parted
overflow_sub-parted t c =
    let v = c.deref-parted.result.now in
    let o = opened c.args.self.now _ v _ c.in-Parted.is c.deref-parted.ensures refl (λ s. s) refl c.requires.spanned in
    let order : AreInOrder c.args.from (2 ^ 51) (parts_in v) = subst (AreInOrder c.args.from (2 ^ 51)) o.full c.requires.ordered in
    span_below c.args.from (2 ^ 51) (parts_in v) v.span (sym o.spans.0) order

pub returns-then-count-parted : goal.returns-then-count-parted
returns-then-count-parted t c =
    let v = c.deref-parted.result.now in
    let o = opened c.args.self.now _ v _ c.in-Parted.is c.deref-parted.ensures refl (λ s. s) refl c.requires.spanned in
    let order : AreInOrder c.args.from (2 ^ 51) (parts_in v) = subst (AreInOrder c.args.from (2 ^ 51)) o.full c.requires.ordered in
    sym (ap (first_gap c.args.from c.args.count) o.full ∙ gap_begins c.args.from c.args.count (2 ^ 51) (parts_in v) v.span (sym o.spans.0) c.if-count-parted.true order)

pub returns-then-parted-count : goal.returns-then-parted-count
returns-then-parted-count t c =
    let v = c.deref-parted.result.now in
    let o = opened c.args.self.now _ v _ c.in-Parted.is c.deref-parted.ensures refl (λ s. s) refl c.requires.spanned in
    let order : AreInOrder c.args.from (2 ^ 51) (parts_in v) = subst (AreInOrder c.args.from (2 ^ 51)) o.full c.requires.ordered in
    sym (ap (first_gap c.args.from c.args.count) o.full ∙ gap_quits c.args.from c.args.count (2 ^ 51) (parts_in v) v.span (sym o.spans.0) c.if-count-parted.false c.if-parted-count.true order)

pub first_gap-requires : goal.first_gap-requires
first_gap-requires t c =
    let v = c.deref-parted.result.now in
    let o = opened c.args.self.now _ v _ c.in-Parted.is c.deref-parted.ensures refl (λ s. s) refl c.requires.spanned in
    let order : AreInOrder c.args.from (2 ^ 51) (parts_in v) = subst (AreInOrder c.args.from (2 ^ 51)) o.full c.requires.ordered in
    let at : count_parts c.args.self.now ≡ t = c.decreases in
    let smaller : count_parts v.left < t = omega (arith, o.left, at) in
    (smaller, (o.spans.1, in_order_front c.args.from (2 ^ 51) (extents_in v.left) (listed_held v.held ++ extents_in v.right) order))

pub returns-in-Some : goal.returns-in-Some
returns-in-Some t c =
    let v = c.deref-parted.result.now in
    let o = opened c.args.self.now _ v _ c.in-Parted.is c.deref-parted.ensures refl (λ s. s) refl c.requires.spanned in
    sym (ap (first_gap c.args.from c.args.count) o.full ∙ gap_front c.args.from c.args.count c.in-Some.start (extents_in v.left) (listed_held v.held ++ extents_in v.right) (sym c.in-Some.ensures))

pub end_after-from-requires-clause-ordered : goal.end_after-from-requires-clause-ordered
end_after-from-requires-clause-ordered t c =
    let v = c.deref-parted.result.now in
    let o = opened c.args.self.now _ v _ c.in-Parted.is c.deref-parted.ensures refl (λ s. s) refl c.requires.spanned in
    let order : AreInOrder c.args.from (2 ^ 51) (parts_in v) = subst (AreInOrder c.args.from (2 ^ 51)) o.full c.requires.ordered in
    in_order_weaker c.args.from (2 ^ 51) 0 (2 ^ 51) (extents_in v.left) (omega arith) (omega arith) (in_order_front c.args.from (2 ^ 51) (extents_in v.left) (listed_held v.held ++ extents_in v.right) order)

pub gap_before-requires-2 : goal.gap_before-requires-2
gap_before-requires-2 t c =
    let v = c.deref-parted.result.now in
    let o = opened c.args.self.now _ v _ c.in-Parted.is c.deref-parted.ensures refl (λ s. s) refl c.requires.spanned in
    let order : AreInOrder c.args.from (2 ^ 51) (parts_in v) = subst (AreInOrder c.args.from (2 ^ 51)) o.full c.requires.ordered in
    let from = end_of c.args.from (extents_in v.left) in
    let back = in_order_front from (2 ^ 51) (listed_held v.held) (extents_in v.right) (in_order_back c.args.from (2 ^ 51) (extents_in v.left) (listed_held v.held ++ extents_in v.right) order) in
    subst (λ (n : ℕ). AreInOrder n (2 ^ 51) (listed_held v.held)) (sym c.end_after-from.ensures) back

pub end_of_held-requires : goal.end_of_held-requires
end_of_held-requires t c =
    let v = c.deref-parted.result.now in
    let o = opened c.args.self.now _ v _ c.in-Parted.is c.deref-parted.ensures refl (λ s. s) refl c.requires.spanned in
    let order : AreInOrder c.args.from (2 ^ 51) (parts_in v) = subst (AreInOrder c.args.from (2 ^ 51)) o.full c.requires.ordered in
    let from = end_of c.args.from (extents_in v.left) in
    let back = in_order_front from (2 ^ 51) (listed_held v.held) (extents_in v.right) (in_order_back c.args.from (2 ^ 51) (extents_in v.left) (listed_held v.held ++ extents_in v.right) order) in
    subst (λ (n : ℕ). AreInOrder n (2 ^ 51) (listed_held v.held)) (sym c.end_after-from.ensures) back

pub returns-in-Some-gap_before : goal.returns-in-Some-gap_before
returns-in-Some-gap_before t c =
    let v = c.deref-parted.result.now in
    let o = opened c.args.self.now _ v _ c.in-Parted.is c.deref-parted.ensures refl (λ s. s) refl c.requires.spanned in
    sym (ap (first_gap c.args.from c.args.count) o.full ∙ gap_back c.args.from c.args.count (extents_in v.left) (listed_held v.held ++ extents_in v.right) (sym c.in_default.ensures)
    ∙ ap (λ (n : ℕ). first_gap n c.args.count (listed_held v.held ++ extents_in v.right)) (sym c.end_after-from.ensures)
    ∙ gap_front c.end_after-from.result c.args.count c.in-Some-gap_before.start (listed_held v.held) (extents_in v.right) (sym c.in-Some-gap_before.ensures))

pub first_gap-requires-2 : goal.first_gap-requires-2
first_gap-requires-2 t c =
    let v = c.deref-parted.result.now in
    let o = opened c.args.self.now _ v _ c.in-Parted.is c.deref-parted.ensures refl (λ s. s) refl c.requires.spanned in
    let order : AreInOrder c.args.from (2 ^ 51) (parts_in v) = subst (AreInOrder c.args.from (2 ^ 51)) o.full c.requires.ordered in
    let at : count_parts c.args.self.now ≡ t = c.decreases in
    let smaller : count_parts v.right < t = omega (arith, o.right, at) in
    let from = end_of c.args.from (extents_in v.left) in
    let back = in_order_back from (2 ^ 51) (listed_held v.held) (extents_in v.right) (in_order_back c.args.from (2 ^ 51) (extents_in v.left) (listed_held v.held ++ extents_in v.right) order) in
    let there : c.end_of_held.result ≡ end_of from (listed_held v.held) = c.end_of_held.ensures ∙ ap (λ (n : ℕ). end_of n (listed_held v.held)) c.end_after-from.ensures in
    (smaller, (o.spans.2, subst (λ (n : ℕ). AreInOrder n (2 ^ 51) (extents_in v.right)) (sym there) back))

pub returns : goal.returns
returns t c =
    let v = c.deref-parted.result.now in
    let o = opened c.args.self.now _ v _ c.in-Parted.is c.deref-parted.ensures refl (λ s. s) refl c.requires.spanned in
    c.first_gap-2.ensures ∙ ap (λ (n : ℕ). first_gap n c.args.count (extents_in v.right)) c.end_of_held.ensures
    ∙ sym (ap (first_gap c.args.from c.args.count) o.full ∙ gap_back c.args.from c.args.count (extents_in v.left) (listed_held v.held ++ extents_in v.right) (sym c.in_default.ensures)
    ∙ ap (λ (n : ℕ). first_gap n c.args.count (listed_held v.held ++ extents_in v.right)) (sym c.end_after-from.ensures)
    ∙ gap_back c.end_after-from.result c.args.count (listed_held v.held) (extents_in v.right) (sym c.in_default-gap_before.ensures))
