use Rattle.std.proofs.Common.{rules, ap, sym, ◌∙◌, ◌≡◌, Some, true, false}
use Rattle.collector.specs.Marks.{Marks, number_in}
use Rattle.collector.proofs.Views.{number_below, safe_by}
use Rattle.collector.proofs.Turning.{met_by, grey_is_safe}
use Rattle.collector.proofs.collection.Collection.meet.Goals as goal

pub is_safe_at-requires : goal.is_safe_at-requires
is_safe_at-requires c = number_below c.args.self.now.hashes c.args.node.hash c.in-Some.number (sym (c.in-Some.ensures ∙ ap (λ (m : Marks). number_in m.hashes c.args.node.hash) c.self.view_is))

pub shade_number-requires : goal.shade_number-requires
shade_number-requires c = sym (c.in-Some.ensures ∙ ap (λ (m : Marks). number_in m.hashes c.args.node.hash) c.self.view_is)

pub returns-then-not-is_safe_at-clause-met : goal.returns-then-not-is_safe_at-clause-met
returns-then-not-is_safe_at-clause-met c =
    let is : number_in c.args.self.now.hashes c.args.node.hash ≡ Some c.in-Some.number = sym (c.in-Some.ensures ∙ ap (λ (m : Marks). number_in m.hashes c.args.node.hash) c.self.view_is) in
    let none : c.is_safe_at.result ≡ false = search rules in
    met_by c.args.self.now c.shade_number.new.self c.args.node c.shade_number.ensures (sym (safe_by c.args.self.now c.args.node c.in-Some.number is) ∙ sym c.is_safe_at.ensures ∙ none)

pub returns-then-not-is_safe_at-clause-safe : goal.returns-then-not-is_safe_at-clause-safe
returns-then-not-is_safe_at-clause-safe c known = grey_is_safe c.shade_number.new.self c.args.node c.shade_number.ensures.grey

pub returns-else-not-is_safe_at-clause-safe : goal.returns-else-not-is_safe_at-clause-safe
returns-else-not-is_safe_at-clause-safe c known =
    let is : number_in c.args.self.now.hashes c.args.node.hash ≡ Some c.in-Some.number = sym (c.in-Some.ensures ∙ ap (λ (m : Marks). number_in m.hashes c.args.node.hash) c.self.view_is) in
    let yes : c.is_safe_at.result ≡ true = search rules in
    sym (safe_by c.args.self.now c.args.node c.in-Some.number is) ∙ sym c.is_safe_at.ensures ∙ yes
