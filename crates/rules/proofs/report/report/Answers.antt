-- `rules::report::report` meets its contract. Assumes nothing.
use Rattle.rules.proofs.Reporting.{reporting}
use Rattle.rules.proofs.report.report.Goals as goal

pub returns-in_default : goal.returns-in_default
returns-in_default c = search reporting

pub put_message-n-requires-clause-m_in_bounds : goal.put_message-n-requires-clause-m_in_bounds
put_message-n-requires-clause-m_in_bounds c = search reporting

pub returns : goal.returns
returns c = search reporting
