use Rattle.std.proofs.Common.{subst, arith, ◌<◌, ◌≡◌, true, length, ℕ}
use Rattle.collector.specs.inside.Tables.{NodesView, grey_at}
use Rattle.collector.proofs.Greys.{first_is_grey}
use Rattle.collector.proofs.nodes.Nodes.is_idle.Goals as goal

pub returns-clause-no : goal.returns-clause-no
returns-clause-no c e =
    subst (λ (v : NodesView). (number : ℕ) × (number < length v.marks) × (grey_at v.marks number ≡ true)) c.self.view_is
    (first_is_grey c.self.inside.marks.items c.self.inside.grey.items c.self.invariant.listed (grind (arith, c.is_empty.ensures, e)))
