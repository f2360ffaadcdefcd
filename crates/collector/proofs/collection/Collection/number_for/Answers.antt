use Rattle.std.proofs.Common.{ap, sym, ◌∙◌, ◌≡◌, false, is_some}
use Rattle.collector.specs.Marks.{Marks, knows}
use Rattle.collector.proofs.Views.{entered_same}
use Rattle.collector.proofs.collection.Collection.number_for.Goals as goal

pub know-requires : goal.know-requires
know-requires c =
    let unknown : knows c.args.self.now c.args.hash ≡ false = ap (λ (m : Marks). knows m c.args.hash) (sym c.self.view_is) ∙ ap is_some (sym c.in-None.ensures) in
    record { absent = unknown; room = c.requires unknown }

pub returns-in-Some-clause-entered : goal.returns-in-Some-clause-entered
returns-in-Some-clause-entered c = entered_same c.args.self.now c.args.hash (ap (λ (m : Marks). knows m c.args.hash) (sym c.self.view_is) ∙ ap is_some (sym c.in-Some.ensures))
