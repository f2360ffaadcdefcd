use Rattle.ddc_entry.proofs.laws.one_entry.Goals as goal
use Rattle.ddc_entry.proofs.Entries.{entry_once}

pub returns : goal.returns
returns c = entry_once
