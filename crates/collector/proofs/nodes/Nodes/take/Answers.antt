use Rattle.std.proofs.Common.{rules, sym, subst, ap, ◌∙◌, ◌≡◌, ◌<◌, ◌++◌, ◌∷◌, [], length, List, ℕ}
use Rattle.collector.specs.inside.Tables.{AreListed}
use Rattle.collector.proofs.Greys.{grey_below, last_is_grey, listed_taken, counted_taken}
use Rattle.collector.proofs.nodes.Nodes.take.Goals as goal

pub index_mut-requires : goal.index_mut-requires
index_mut-requires c =
    let items : c.self.inside.grey.items ≡ c.pop.new.self.items ++ c.in_ok-number.number ∷ [] = c.in_ok-number.ensures.items in
    let marks = c.self.inside.marks.items in
    let below : c.in_ok-number.number < length marks =
    grey_below marks c.in_ok-number.number (last_is_grey marks c.pop.new.self.items c.in_ok-number.number (subst (AreListed marks) items c.self.invariant.listed)) in
    search rules

pub invariant_of-self-2 : goal.invariant_of-self-2
invariant_of-self-2 c =
    let items : c.self.inside.grey.items ≡ c.pop.new.self.items ++ c.in_ok-number.number ∷ [] = c.in_ok-number.ensures.items in
    let marks = c.self.inside.marks.items in
    let listed : AreListed marks (c.pop.new.self.items ++ c.in_ok-number.number ∷ []) = subst (AreListed marks) items c.self.invariant.listed in
    record {
      listed = listed_taken marks c.pop.new.self.items c.in_ok-number.number listed;
      counted = counted_taken marks c.pop.new.self.items c.in_ok-number.number listed (ap (λ (xs : List ℕ). length xs) (sym items) ∙ c.self.invariant.counted);
      room = search rules;
      grey_room = search rules;
      numbers = search rules;
    }
