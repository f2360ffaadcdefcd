use Rattle.std.proofs.Common.{rules, sym, subst, ap, ◌∙◌, ◌≡◌, ◌++◌, ◌∷◌, [], List, None}
use Rattle.ddc_names.specs.declared.hash.IoHash.{IoHash}
use Rattle.collector.specs.Marks.{number_in}
use Rattle.collector.specs.inside.Tables.{NumbersView, AreDistinct, AreAscendingTo}
use Rattle.collector.proofs.Lists.{distinct_added}
use Rattle.collector.proofs.numbers.Numbers.add.Goals as goal

pub invariant_of-self : goal.invariant_of-self
invariant_of-self c =
    let items : c.push.new.self.items ≡ c.self.inside.hashes.items ++ c.args.hash ∷ [] = c.in-Ok.ensures.items in
    let absent : number_in c.self.inside.hashes.items c.args.hash ≡ None = ap (λ (v : NumbersView). number_in v.hashes c.args.hash) c.self.view_is ∙ c.requires.absent in
    let spare = ap (λ (v : NumbersView). v.spare) c.self.view_is in
    record {
      distinct = subst AreDistinct (sym items) (distinct_added c.self.inside.hashes.items c.args.hash c.self.invariant.distinct absent);
      ascending = subst (AreAscendingTo c.sorted_with-sorted.result) (sym items) (subst (λ (xs : List IoHash). AreAscendingTo c.sorted_with-sorted.result (xs ++ c.args.hash ∷ [])) c.deref.ensures.value c.sorted_with-sorted.ensures.ascending);
      sorted = search rules;
      room = search rules;
      numbers = search rules;
    }

pub returns-clause-distinct : goal.returns-clause-distinct
returns-clause-distinct c =
    let items : c.push.new.self.items ≡ c.self.inside.hashes.items ++ c.args.hash ∷ [] = c.in-Ok.ensures.items in
    let absent : number_in c.self.inside.hashes.items c.args.hash ≡ None = ap (λ (v : NumbersView). number_in v.hashes c.args.hash) c.self.view_is ∙ c.requires.absent in
    subst AreDistinct (sym items) (distinct_added c.self.inside.hashes.items c.args.hash c.self.invariant.distinct absent)
