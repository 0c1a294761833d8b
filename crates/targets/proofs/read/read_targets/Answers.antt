-- `targets::read::read_targets` meets its contract. Assumes nothing.
use Rattle.targets.proofs.Reading.{targets_whole}
use Rattle.names.specs.Laws.Readers.{handed_on}
use Rattle.targets.proofs.read.read_targets.Goals as goal

pub returns-in_err-p : goal.returns-in_err-p
returns-in_err-p c = handed_on c.from_residual.ensures.1 (search (targets_whole, c.in_err-p.was))

pub returns-in_err-q : goal.returns-in_err-q
returns-in_err-q c = handed_on c.from_residual-in_err-q.ensures.1 (search (targets_whole, c.in_ok-p.was, c.in_err-q.was))

pub returns-in_err-n : goal.returns-in_err-n
returns-in_err-n c = handed_on c.from_residual-in_err-n.ensures.1 (search (targets_whole, c.in_ok-p.was, c.in_ok-q.was, c.in_err-n.was))

pub returns-in_err-end : goal.returns-in_err-end
returns-in_err-end c = handed_on c.from_residual-in_err-end.ensures.1 (search (targets_whole, c.in_ok-p.was, c.in_ok-q.was, c.in_ok-n.was, c.in_err-end.was))

pub returns : goal.returns
returns c = search (targets_whole, c.in_ok-p.was, c.in_ok-q.was, c.in_ok-n.was, c.in_ok-end.was)
