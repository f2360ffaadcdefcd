use Rattle.std.proofs.Common.{rules, sym, subst, ap, ◌∙◌, ◌≡◌, ◌++◌, ◌∷◌, [], List}
use Rattle.collector.specs.declared.nodes.NodeMark.{NodeMark}
use Rattle.collector.specs.Marks.{white}
use Rattle.collector.specs.inside.Tables.{AreListed, count_grey}
use Rattle.collector.proofs.Greys.{listed_added, counted_added}
use Rattle.collector.proofs.nodes.Nodes.add.Goals as goal

pub invariant_of-self : goal.invariant_of-self
invariant_of-self c =
    let items : c.push.new.self.items ≡ c.self.inside.marks.items ++ white ∷ [] = c.in-Ok.ensures.items in
    record {
      listed = subst (λ (ms : List NodeMark). AreListed ms c.self.inside.grey.items) (sym items) (listed_added c.self.inside.marks.items c.self.inside.grey.items c.self.invariant.listed);
      counted = c.self.invariant.counted ∙ sym (ap count_grey items ∙ counted_added c.self.inside.marks.items);
      room = search rules;
      grey_room = search rules;
      numbers = search rules;
    }
