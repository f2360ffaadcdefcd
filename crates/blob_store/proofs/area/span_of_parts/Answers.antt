use Rattle.std.proofs.Common.{◌≡◌, sym, ap, subst, ◌∙◌, ◌^◌, ◌++◌, arith, Option}
use Rattle.blob_store.specs.declared.span.Span.{Span}
use Rattle.blob_store.specs.inside.Areas.{extents_in, listed_held}
use Rattle.blob_store.specs.inside.Runs.{end_of}
use Rattle.blob_store.specs.inside.Spans.{span_of, spans_joined, SpanFollows}
use Rattle.blob_store.proofs.Runs.{in_order_weaker, in_order_front, in_order_back}
use Rattle.blob_store.proofs.Spanned.{parts_follow, span_of_append, no_span_of_none}
use Rattle.blob_store.proofs.area.span_of_parts.Goals as goal

pub span_of_held-requires : goal.span_of_held-requires
span_of_held-requires c =
    let xs = extents_in c.args.left.now in
    let ys = listed_held c.args.held in
    let zs = extents_in c.args.right.now in
    let from = end_of 0 xs in
    in_order_weaker from (2 ^ 51) 0 (2 ^ 51) ys (omega arith) (omega arith) (in_order_front from (2 ^ 51) ys zs (in_order_back 0 (2 ^ 51) xs (ys ++ zs) c.requires.ordered))

pub join-requires : goal.join-requires
join-requires c =
    let xs = extents_in c.args.left.now in
    let ys = listed_held c.args.held in
    let zs = extents_in c.args.right.now in
    let from = end_of 0 xs in
    let follow = parts_follow from (2 ^ 51) ys zs (in_order_back 0 (2 ^ 51) xs (ys ++ zs) c.requires.ordered) in
    subst (λ (s : Option Span). SpanFollows s c.span-2.result) (sym c.span_of_held.ensures) (subst (SpanFollows (span_of ys)) (sym c.span-2.ensures) follow)

pub join-requires-2 : goal.join-requires-2
join-requires-2 c =
    let xs = extents_in c.args.left.now in
    let ys = listed_held c.args.held in
    let zs = extents_in c.args.right.now in
    let follow = parts_follow 0 (2 ^ 51) xs (ys ++ zs) c.requires.ordered in
    let back : c.join.result ≡ span_of (ys ++ zs) = c.join.ensures ∙ ap (λ (s : Option Span). spans_joined s c.span-2.result) c.span_of_held.ensures ∙ ap (spans_joined (span_of ys)) c.span-2.ensures ∙ sym (span_of_append ys zs) in
    subst (λ (s : Option Span). SpanFollows s c.join.result) (sym c.span.ensures) (subst (SpanFollows (span_of xs)) (sym back) follow)

pub span-requires-clause-ordered : goal.span-requires-clause-ordered
span-requires-clause-ordered c = in_order_front 0 (2 ^ 51) (extents_in c.args.left.now) (listed_held c.args.held ++ extents_in c.args.right.now) c.requires.ordered

pub span-requires-2-clause-ordered : goal.span-requires-2-clause-ordered
span-requires-2-clause-ordered c =
    let xs = extents_in c.args.left.now in
    let ys = listed_held c.args.held in
    let zs = extents_in c.args.right.now in
    let from = end_of 0 xs in
    in_order_weaker (end_of from ys) (2 ^ 51) 0 (2 ^ 51) zs (omega arith) (omega arith) (in_order_back from (2 ^ 51) ys zs (in_order_back 0 (2 ^ 51) xs (ys ++ zs) c.requires.ordered))

pub returns : goal.returns
returns c =
    let xs = extents_in c.args.left.now in
    let ys = listed_held c.args.held in
    let zs = extents_in c.args.right.now in
    let back : c.join.result ≡ span_of (ys ++ zs) = c.join.ensures ∙ ap (λ (s : Option Span). spans_joined s c.span-2.result) c.span_of_held.ensures ∙ ap (spans_joined (span_of ys)) c.span-2.ensures ∙ sym (span_of_append ys zs) in
    c.in-Some.ensures ∙ ap (λ (s : Option Span). spans_joined s c.join.result) c.span.ensures ∙ ap (spans_joined (span_of xs)) back ∙ sym (span_of_append xs (ys ++ zs))

pub unreachable-requires : goal.unreachable-requires
unreachable-requires c =
    let xs = extents_in c.args.left.now in
    let ys = listed_held c.args.held in
    let zs = extents_in c.args.right.now in
    let back : c.join.result ≡ span_of (ys ++ zs) = c.join.ensures ∙ ap (λ (s : Option Span). spans_joined s c.span-2.result) c.span_of_held.ensures ∙ ap (spans_joined (span_of ys)) c.span-2.ensures ∙ sym (span_of_append ys zs) in
    no_span_of_none (xs ++ (ys ++ zs)) (sym (c.in-None.ensures ∙ ap (λ (s : Option Span). spans_joined s c.join.result) c.span.ensures ∙ ap (spans_joined (span_of xs)) back ∙ sym (span_of_append xs (ys ++ zs)))) c.requires.some
