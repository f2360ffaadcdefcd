use Rattle.std.proofs.Common.{ap, sym, subst, ◌∙◌, ◌≡◌, ◌+◌, ◌-◌, false, None, Some, List, ℕ, arith}
use Rattle.ddc_names.specs.declared.hash.IoHash.{IoHash}
use Rattle.collector.specs.Marks.{Marks, number_in, knows}
use Rattle.collector.specs.contracts.collection.Collection.{the_view}
use Rattle.collector.proofs.Lists.{last_number}
use Rattle.collector.proofs.Views.{none_if, entered_as, grown_is}
use Rattle.collector.proofs.collection.Collection.know.Goals as goal

pub add-requires-clause-absent : goal.add-requires-clause-absent
add-requires-clause-absent c = none_if _ (subst (λ (m : Marks). knows m c.args.hash ≡ false) (sym c.self.view_is) c.requires.absent)

pub returns-clause-number : goal.returns-clause-number
returns-clause-number c =
    let none : number_in c.self.inside.numbers.hashes c.args.hash ≡ None = none_if _ (subst (λ (m : Marks). knows m c.args.hash ≡ false) (sym c.self.view_is) c.requires.absent) in
    ap (λ (xs : List IoHash). number_in xs c.args.hash) c.add.ensures.hashes ∙ last_number c.self.inside.numbers.hashes c.args.hash none ∙ ap (λ (n : ℕ). Some n) (sym c.len-number.ensures)

pub returns-clause-entered : goal.returns-clause-entered
returns-clause-entered c =
    let none : number_in c.self.inside.numbers.hashes c.args.hash ≡ None = none_if _ (subst (λ (m : Marks). knows m c.args.hash ≡ false) (sym c.self.view_is) c.requires.absent) in
    let spare = ap (λ (m : Marks). m.spare) c.self.view_is in
    let room : c.self.inside.spare - 1 + 1 ≡ c.self.inside.spare = omega (arith, c.requires.room, spare) in
    entered_as (the_view c.self.inside) c.args.self.now _ c.args.hash (c.self.inside.spare - 1) c.self.view_is none c.self.invariant.objects c.self.invariant.binaries room
    (grown_is (the_view c.self.inside) _ _ _ _ _ _ (c.self.inside.spare - 1) c.add.ensures.hashes c.add-2.ensures.marks c.add-3.ensures.marks)
