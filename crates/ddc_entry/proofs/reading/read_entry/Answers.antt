use Rattle.std.proofs.Common.{arith, ap, subst, List, ℕ, ◌≡◌, Some}
use Rattle.ddc_entry.specs.inside.Reading.{entry_at}
use Rattle.ddc_entry.proofs.Entries.{found_whole, found_same, none_left, not_refused, some_left}
use Rattle.ddc_entry.proofs.reading.read_entry.Goals as goal

pub returns-then-not-is_empty-clause-spelled_is_found : goal.returns-then-not-is_empty-clause-spelled_is_found
returns-then-not-is_empty-clause-spelled_is_found c = λ e p same.
    absurd (some_left c.in-Ok.rest.now c.if-not-is_empty.ensures (found_same c.args.bytes.now c.in-Ok.rest.now c.in-Ok.entry e c.in-Ok.ensures p same).1)

pub returns-else-not-is_empty-clause-found_is_spelled : goal.returns-else-not-is_empty-clause-found_is_spelled
returns-else-not-is_empty-clause-found_is_spelled c =
    let none = none_left c.in-Ok.rest.now c.if-not-is_empty.ensures in
    found_whole c.args.bytes.now c.in-Ok.entry (λ i. omega (arith, c.type_inv.bytes i)) (subst (λ (r : List ℕ). entry_at c.args.bytes.now ≡ Some (c.in-Ok.entry, r)) none c.in-Ok.ensures)

pub returns-else-not-is_empty-clause-spelled_is_found : goal.returns-else-not-is_empty-clause-spelled_is_found
returns-else-not-is_empty-clause-spelled_is_found c = λ e p same. ap Some (found_same c.args.bytes.now c.in-Ok.rest.now c.in-Ok.entry e c.in-Ok.ensures p same).0

pub returns-in-Err-Refused-clause-spelled_is_found : goal.returns-in-Err-Refused-clause-spelled_is_found
returns-in-Err-Refused-clause-spelled_is_found c = λ e p same. absurd (not_refused c.args.bytes.now e (rw c.in-Err-Refused.field-0-is at c.in-Err-Refused.ensures) p same)
