use Rattle.std.proofs.Common.{◌≡◌, ◌+◌, ◌-◌, ◌≤◌, ◌∷◌, ◌++◌, [], ◌∙◌, List, ℕ, length, take, drop, refl, sym, ap, subst, arith, inr}
use Rattle.ddc_disk.specs.Told.{at_told}
use Rattle.ddc_journal.specs.inside.Scanning.{IsReadTo}
use Rattle.ddc_journal.proofs.Making.{if_told}
use Rattle.ddc_journal.proofs.Windows.{breaks, passed, when_ok}
use Rattle.ddc_journal.proofs.window.pass_item.Goals as goal

pub returns-then-size-at-clause-fault : goal.returns-then-size-at-clause-fault
returns-then-size-at-clause-fault g c = inr (if_told (g.D.Disk.meaning c.args.disk.now).held _ (λ file is size_is before needs.
    (refl, breaks file c.args.walk.now.bodies c.args.walk.now.at before c.args.need needs (omega arith))))

pub returns-clause-reads : goal.returns-clause-reads
returns-clause-reads g c = if_told (g.D.Disk.meaning c.args.disk.now).held _ (λ file is size_is before needs.
    let walk = c.args.walk.now in
    let m = c.args.need - 6 in
    let body = c.in-Ok.body.items in
    let read = at_told (g.D.Disk.meaning c.args.disk.now).held (λ f. walk.at + 5 + m ≤ length f → body ≡ take m (drop (walk.at + 5) f)) file is c.in-Ok.ensures.bytes (omega arith) in
    let P : List (List ℕ) → Type 0 = λ l. IsReadTo l (walk.at + (c.args.need - 1)) file in
    let added : c.push.new.self ≡ walk.bodies ++ body ∷ [] = when_ok c.push.result _ (sym c.if-is_err.ensures.value) c.push.ensures.ok ∙ ap (λ (l : List ℕ). walk.bodies ++ l ∷ []) c.of_vec.ensures in
    subst P (sym added) (passed file walk.bodies walk.at before c.args.need needs (omega arith) (omega arith) body read))
