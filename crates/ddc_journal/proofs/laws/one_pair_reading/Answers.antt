use Rattle.ddc_journal.proofs.PairOnce.{not_made_is_none, one_pair, one_pair_fault, pair_or_fault}
use Rattle.ddc_journal.proofs.laws.one_pair_reading.Goals as goal

pub returns-clause-pair : goal.returns-clause-pair
returns-clause-pair c = one_pair

pub returns-clause-exclusive : goal.returns-clause-exclusive
returns-clause-exclusive c = pair_or_fault

pub returns-clause-fault : goal.returns-clause-fault
returns-clause-fault c = one_pair_fault

pub returns-clause-none : goal.returns-clause-none
returns-clause-none c = not_made_is_none
