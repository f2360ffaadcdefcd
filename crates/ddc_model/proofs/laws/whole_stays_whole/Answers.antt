use Rattle.ddc_model.proofs.laws.whole_stays_whole.Goals as goal
use Rattle.ddc_model.proofs.Once.{whole_stays}

pub returns : goal.returns
returns c = whole_stays
