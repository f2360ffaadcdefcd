use Rattle.std.proofs.Common.{sym, ap, ◌∙◌, ◌≡◌, ◌+◌, ◌≤◌, ◌<◌, length, false, arith}
use Rattle.std.proofs.lemmas.List.{get_or_default}
use Rattle.collector.specs.declared.nodes.NodeMark.{NodeMark}
use Rattle.collector.specs.Marks.{white}
use Rattle.collector.specs.inside.Tables.{grey_at, count_grey}
use Rattle.collector.proofs.Greys.{fewer_grey}
use Rattle.collector.proofs.nodes.Nodes.shade.Goals as goal

pub unreachable-requires : goal.unreachable-requires
unreachable-requires c =
    let marks = c.self.inside.marks.items in
    let below : c.args.number < length marks = search (arith, c.requires, c.self.view_is) in
    let is_white : grey_at marks c.args.number ≡ false = ap (λ (m : NodeMark). m.grey) (get_or_default marks c.args.number white c.index.result.now below ∙ sym c.index.ensures) ∙ c.if-index.false in
    let few : count_grey marks + 1 ≤ length marks = fewer_grey marks c.args.number below is_white in
    let full = c.in_default.ensures.full in
    absurd (omega (arith, full, few, c.self.invariant.counted, c.self.invariant.grey_room))
