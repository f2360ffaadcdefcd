use Rattle.std.proofs.Common.{◌∙◌, ap, drop, take, ℕ, List}
use Rattle.ddc_journal.proofs.Reading.{head_is}
use Rattle.ddc_journal.proofs.parse.split_head.Goals as goal

pub returns-clause-known : goal.returns-clause-known
returns-clause-known c known =
    let b = c.args.bytes.now in
    let m = c.in-Some.magic.now in
    let v = c.in-Some-split_first_chunk.version.now in
    let g = c.in-Some-split_first_chunk-2.generation.now in
    let first = c.in-Some.ensures.cases in
    let second = c.in-Some-split_first_chunk.ensures.cases in
    let third = c.in-Some-split_first_chunk-2.ensures.cases in
    head_is b m v g c.short_number.result c.long_number.result first.0
    (second.0 ∙ ap (λ (l : List ℕ). take 4 l) first.1)
    (third.0 ∙ ap (λ (l : List ℕ). take 8 l) (second.1 ∙ ap (λ (l : List ℕ). drop 4 l) first.1))
    known
    c.short_number.ensures.back
    c.long_number.ensures.back
