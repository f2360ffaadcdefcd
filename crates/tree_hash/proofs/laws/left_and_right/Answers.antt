use Rattle.tree_hash.proofs.Cuts.{left_of, value_cut}
use Rattle.tree_hash.proofs.laws.left_and_right.Goals as goal

pub returns-clause-cut : goal.returns-clause-cut
returns-clause-cut c b n flag d left = value_cut d b n flag left.0 left.1

pub returns-clause-some : goal.returns-clause-some
returns-clause-some c = left_of
