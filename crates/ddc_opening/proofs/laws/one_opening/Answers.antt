use Rattle.ddc_opening.proofs.Once.{one_holding, one_opening, opens_or_fails, one_fault}
use Rattle.ddc_opening.proofs.laws.one_opening.Goals as goal

pub returns-clause-holding : goal.returns-clause-holding
returns-clause-holding c = one_holding c.one_entry.ensures c.one_pair_reading.ensures.pair

pub returns-clause-opening : goal.returns-clause-opening
returns-clause-opening c = one_opening c.one_entry.ensures c.one_pair_reading.ensures.pair

pub returns-clause-exclusive : goal.returns-clause-exclusive
returns-clause-exclusive c = opens_or_fails c.one_entry.ensures c.one_pair_reading.ensures.pair c.one_pair_reading.ensures.exclusive

pub returns-clause-fault : goal.returns-clause-fault
returns-clause-fault c = one_fault c.one_entry.ensures c.one_pair_reading.ensures.pair c.one_pair_reading.ensures.exclusive c.one_pair_reading.ensures.fault
