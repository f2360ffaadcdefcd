use Rattle.ddc_protocol.proofs.laws.one_cut.Goals as goal
use Rattle.ddc_protocol.proofs.Once.{one_cut}

pub returns : goal.returns
returns c = one_cut
