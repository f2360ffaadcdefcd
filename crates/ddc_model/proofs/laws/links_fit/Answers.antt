use Rattle.ddc_model.proofs.laws.links_fit.Goals as goal
use Rattle.ddc_model.proofs.Fit.{links_take_bytes}

pub returns : goal.returns
returns c = links_take_bytes
