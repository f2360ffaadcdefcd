use Rattle.replication_log.proofs.Readings.{keeps_newest}
use Rattle.replication_log.proofs.laws.a_log_keeps_the_newest.Goals as goal

pub returns-clause-newest : goal.returns-clause-newest
returns-clause-newest c = keeps_newest
