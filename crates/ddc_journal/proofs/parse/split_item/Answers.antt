use Rattle.std.proofs.Common.{rules, ◌≡◌, ◌∙◌, ap, sym, length, ◌++◌, take-append-drop}
use Rattle.std.specs.Int.{to_le_bytes, w32}
use Rattle.ddc_journal.proofs.Reading.{framed_is}
use Rattle.ddc_journal.proofs.parse.split_item.Goals as goal

pub returns-clause-item : goal.returns-clause-item
returns-clause-item c =
    let after = c.args.after.now in
    let chunk = c.in-Some.size.now in
    let tail = c.in-Some.tail.now in
    let first = c.in-Some.ensures.cases in
    let whole : after ≡ chunk ++ tail = sym (take-append-drop 4 after) ∙ (λ i. sym first.0 i ++ sym first.1 i) in
    let parts : tail ≡ c.split_at.result.0.now ++ c.split_at.result.1.now = search rules in
    let size : length c.split_at.result.0.now ≡ c.short_number-size.result = search rules in
    framed_is after chunk tail c.split_at.result.0.now c.split_at.result.1.now whole parts (ap (to_le_bytes w32) size ∙ c.short_number-size.ensures.back)
