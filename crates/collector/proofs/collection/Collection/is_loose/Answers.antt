use Rattle.std.proofs.Common.{ap, sym, ◌∙◌}
use Rattle.collector.specs.Marks.{Marks, number_in}
use Rattle.collector.proofs.Views.{number_below, loose_by}
use Rattle.collector.proofs.collection.Collection.is_loose.Goals as goal

pub is_safe_at-requires : goal.is_safe_at-requires
is_safe_at-requires c = number_below c.args.self.now.hashes c.args.hash.now c.in-Some.number (sym (c.in-Some.ensures ∙ ap (λ (m : Marks). number_in m.hashes c.args.hash.now) c.self.view_is))

pub returns-in-Some : goal.returns-in-Some
returns-in-Some c = loose_by c.args.self.now c.args.hash.now c.in-Some.number c.is_safe_at.result (sym (c.in-Some.ensures ∙ ap (λ (m : Marks). number_in m.hashes c.args.hash.now) c.self.view_is)) c.is_safe_at.ensures
