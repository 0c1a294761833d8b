-- `reports::standing::header_at` meets its contract. Assumes nothing.
use borrow.Author.Rules.{rules}
use Rattle.reports.specs.Laws.Standing.{header_read}
use Rattle.reports.proofs.standing.header_at.Goals as goal

ruleset steps = (rules, header_read)

pub returns-clause-here : goal.returns-clause-here
returns-clause-here c = search steps
