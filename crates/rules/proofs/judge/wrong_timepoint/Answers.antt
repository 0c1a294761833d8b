use Rattle.rules.proofs.Judging.{tps}
use Rattle.rules.proofs.judge.wrong_timepoint.Goals as goal

pub returns-in_err-t : goal.returns-in_err-t
returns-in_err-t c = search (tps, c.in_err-t.was, c.from_residual.ensures)

pub returns-then-is_timepoint : goal.returns-then-is_timepoint
returns-then-is_timepoint c = search (tps, c.in_ok-t.was)

pub returns : goal.returns
returns c = search (tps, c.in_ok-t.was)
