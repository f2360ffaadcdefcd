use Rattle.ddc_model.proofs.laws.entries_stay_placed.Goals as goal
use Rattle.ddc_model.proofs.Placed.{empty_placed, legal_placed}

pub returns-clause-empty : goal.returns-clause-empty
returns-clause-empty c = empty_placed

pub returns-clause-legal : goal.returns-clause-legal
returns-clause-legal c = legal_placed
