use Rattle.std.proofs.Common.{ap, sym, ◌∙◌}
use Rattle.collector.specs.Marks.{Marks, number_in}
use Rattle.collector.proofs.Views.{greyed_if}
use Rattle.collector.proofs.collection.Collection.shade_known.Goals as goal

pub shade_number-requires : goal.shade_number-requires
shade_number-requires c = sym (c.in-Some.ensures ∙ ap (λ (m : Marks). number_in m.hashes c.args.hash.now) c.self.view_is)

pub returns-in-Some : goal.returns-in-Some
returns-in-Some c =
    greyed_if (number_in c.args.self.now.hashes c.args.hash.now) c.in-Some.number c.args.self.now _ (record { kind = c.args.kind; hash = c.args.hash.now })
    (c.in-Some.ensures ∙ ap (λ (m : Marks). number_in m.hashes c.args.hash.now) c.self.view_is) c.shade_number.ensures
