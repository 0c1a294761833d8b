use Rattle.std.proofs.Common.{rules}
use Rattle.names.specs.Laws.Readers.{handed_on}
use Rattle.names.specs.Laws.Rows.{counted-end, counted_start, each_done, each_stops, each_turn}
use Rattle.names.proofs.fields.read_strings.Goals as goal

ruleset steps = (rules, counted-end, counted_start, each_done, each_stops, each_turn)

pub returns-then-s-start : goal.returns-then-s-start
returns-then-s-start c = search steps

pub loop-init : goal.loop-init
loop-init c = search steps

pub returns-in_err-at : goal.returns-in_err-at
returns-in_err-at c = handed_on c.from_residual.ensures.1 (search (steps, c.in_err-at.was))

pub loop-preserved : goal.loop-preserved
loop-preserved c = search (steps, c.in_ok-at.was)

pub returns : goal.returns
returns c = search steps
