use Rattle.std.proofs.Common.{sym, ap, ◌∙◌}
use Rattle.collector.specs.Marks.{number_in}
use Rattle.collector.specs.inside.Tables.{NumbersView}
use Rattle.collector.proofs.Lists.{not_in_front, found_in_front}
use Rattle.collector.proofs.numbers.Numbers.find.Goals as goal

pub find_from-requires-clause-absent : goal.find_from-requires-clause-absent
find_from-requires-clause-absent c =
    not_in_front c.self.inside.hashes.items c.self.inside.sorted c.args.hash.now c.self.invariant.sorted c.self.invariant.ascending c.as_slice-hashes.result.now c.as_slice-hashes.ensures.value c.in-Err.field-0 c.in-Err.ensures.position

pub returns-in-Ok : goal.returns-in-Ok
returns-in-Ok c =
    sym (ap (λ (v : NumbersView). number_in v.hashes c.args.hash.now) (sym c.self.view_is)
    ∙ found_in_front c.self.inside.hashes.items c.self.inside.sorted c.args.hash.now c.self.invariant.sorted c.self.invariant.distinct c.as_slice-hashes.result.now c.as_slice-hashes.ensures.value c.in-Ok.number c.in-Ok.ensures.bound c.in-Ok.ensures.ok)
