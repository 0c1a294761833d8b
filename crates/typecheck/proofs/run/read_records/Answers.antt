-- `typecheck::run::read_records` meets its contract. Assumes nothing.
use Rattle.typecheck.proofs.Running.{reading_records}
use Rattle.typecheck.proofs.run.read_records.Goals as goal

pub returns-in_err-of_record : goal.returns-in_err-of_record
returns-in_err-of_record c = search (reading_records, c.in_err-of_record.was)

pub returns-in_err-of_record-2 : goal.returns-in_err-of_record-2
returns-in_err-of_record-2 c = search (reading_records, c.in_ok-of_record.was, c.in_err-of_record-2.was)

pub returns-in_err-of_record-3 : goal.returns-in_err-of_record-3
returns-in_err-of_record-3 c = search (reading_records, c.in_ok-of_record.was, c.in_ok-of_record-2.was, c.in_err-of_record-3.was)

pub invariant_of-result : goal.invariant_of-result
invariant_of-result c = search (reading_records, c.in_ok-of_record.was)

pub invariant_of-result-2 : goal.invariant_of-result-2
invariant_of-result-2 c = search (reading_records, c.in_ok-of_record.was, c.in_ok-of_record-2.was)

pub invariant_of-result-3 : goal.invariant_of-result-3
invariant_of-result-3 c = search (reading_records, c.in_ok-of_record.was, c.in_ok-of_record-2.was, c.in_ok-of_record-3.was)
