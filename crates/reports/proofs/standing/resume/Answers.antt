-- `reports::standing::resume` meets its contract. Assumes nothing.
use Rattle.std.proofs.Common.{rules}
use Rattle.reports.specs.Laws.Standing.{resumed_all, resumed_part}
use Rattle.reports.proofs.standing.resume.Goals as goal

ruleset steps = (rules, resumed_all, resumed_part)

pub returns-then-state-used : goal.returns-then-state-used
returns-then-state-used c = search steps

pub returns-else-state-used : goal.returns-else-state-used
returns-else-state-used c = search steps
