use Rattle.ddc_model.proofs.laws.sound_caches_serve.Goals as goal
use Rattle.ddc_model.proofs.Serving.{sound_serves}

pub returns : goal.returns
returns c = sound_serves
