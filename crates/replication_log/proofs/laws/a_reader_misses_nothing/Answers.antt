use Rattle.replication_log.proofs.Readings.{misses_nothing, reads_all, page_goes_on}
use Rattle.replication_log.proofs.laws.a_reader_misses_nothing.Goals as goal

pub returns-clause-once : goal.returns-clause-once
returns-clause-once c = misses_nothing

pub returns-clause-all : goal.returns-clause-all
returns-clause-all c = reads_all

pub returns-clause-forward : goal.returns-clause-forward
returns-clause-forward c = page_goes_on
