use Rattle.ddc_journal.proofs.Once.{journal_or_fault, loads_or_fails, one_fault, one_journal, one_loading, one_single_fault}
use Rattle.ddc_journal.proofs.laws.one_reading.Goals as goal

pub returns-clause-journal : goal.returns-clause-journal
returns-clause-journal c = one_journal

pub returns-clause-journal_or_fault : goal.returns-clause-journal_or_fault
returns-clause-journal_or_fault c = journal_or_fault

pub returns-clause-fault_of_kind : goal.returns-clause-fault_of_kind
returns-clause-fault_of_kind c = one_fault

pub returns-clause-loading : goal.returns-clause-loading
returns-clause-loading c = one_loading

pub returns-clause-exclusive : goal.returns-clause-exclusive
returns-clause-exclusive c = loads_or_fails

pub returns-clause-fault : goal.returns-clause-fault
returns-clause-fault c = one_single_fault
