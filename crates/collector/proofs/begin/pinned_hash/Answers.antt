use Rattle.std.proofs.Common.{rules, sym, subst, ◌≡◌, refl, true, false}
use Rattle.collector.specs.inside.Starts.{PinnedHash}
use Rattle.collector.proofs.Starting.{pinned_is, pinned_isnt, pinned_nowhere}
use Rattle.collector.proofs.begin.pinned_hash.Goals as goal

pub returns-then-is_pinned : goal.returns-then-is_pinned
returns-then-is_pinned c =
    (refl, pinned_is c.args.index.now.state c.args.space.now c.args.hour c.args.hash c.in_ok-row.row c.blob.result (sym c.in_ok-row.ensures) c.blob.ensures.row (c.is_pinned.ensures.0 (search rules)))

pub returns-else-is_pinned : goal.returns-else-is_pinned
returns-else-is_pinned c pinned =
    let yes : c.is_pinned.result ≡ true = c.is_pinned.ensures.1 (pinned_isnt c.args.index.now.state c.args.space.now c.args.hour c.args.hash c.in_ok-row.row c.blob.result (sym c.in_ok-row.ensures) c.blob.ensures.row pinned) in
    let no : c.is_pinned.result ≡ false = search rules in
    cc

pub returns-in_err-row : goal.returns-in_err-row
returns-in_err-row c =
    subst (PinnedHash c.args.index.now.state c.args.space.now c.args.hour c.args.hash) (sym c.from_residual.ensures)
    (pinned_nowhere c.args.index.now.state c.args.space.now c.args.hour c.args.hash (sym c.in_err-row.ensures))
