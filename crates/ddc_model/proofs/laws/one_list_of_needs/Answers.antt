use Rattle.ddc_model.proofs.laws.one_list_of_needs.Goals as goal
use Rattle.ddc_model.proofs.Once.{needs_once}

pub returns : goal.returns
returns c = needs_once
