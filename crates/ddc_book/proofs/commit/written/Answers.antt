use Rattle.std.proofs.Common.{sym, ◌∙◌, subst, arith, ℕ, List, length, ◌≤◌}
use Rattle.ddc_book.proofs.Lengths.{spelling_short}
use Rattle.ddc_book.proofs.commit.written.Goals as goal

pub new-requires : goal.new-requires
new-requires c =
    let short : length c.as_slice.result.now ≤ 88081000 = subst (λ (l : List ℕ). length l ≤ 88081000) (sym (c.as_slice.ensures ∙ c.in_ok-body.ensures.bytes)) (spelling_short c.args.entry.now c.in_ok-body.ensures.entry c.requires.few_links) in
    omega (arith, short)
