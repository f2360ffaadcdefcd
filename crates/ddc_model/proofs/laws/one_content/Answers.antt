use Rattle.ddc_model.proofs.laws.one_content.Goals as goal
use Rattle.ddc_model.proofs.Once.{content_once}

pub returns : goal.returns
returns c = content_once
