use Rattle.rules.proofs.Judging.{arguments}
use Rattle.rules.proofs.judge.wrong_argument.Goals as goal

pub returns-in_err-e : goal.returns-in_err-e
returns-in_err-e c = search (arguments, c.in_err-e.was)

pub returns-in_err-a : goal.returns-in_err-a
returns-in_err-a c = search (arguments, c.in_ok-e.was, c.in_err-a.was)

pub returns-then-accepts : goal.returns-then-accepts
returns-then-accepts c = search (arguments, c.in_ok-e.was, c.in_ok-a.was)

pub returns : goal.returns
returns c = search (arguments, c.in_ok-e.was, c.in_ok-a.was)
