-- `targets::read::read_path` meets its contract. Assumes nothing.
use Rattle.targets.proofs.Reading.{path_whole}
use Rattle.names.specs.Laws.Readers.{handed_on}
use Rattle.targets.proofs.read.read_path.Goals as goal

pub returns-in_err-p : goal.returns-in_err-p
returns-in_err-p c = handed_on c.from_residual.ensures.1 (search (path_whole, c.in_err-p.was))

pub returns-in_err-n : goal.returns-in_err-n
returns-in_err-n c = handed_on c.from_residual-in_err-n.ensures.1 (search (path_whole, c.in_ok-p.was, c.in_err-n.was))

pub returns-in_err-m : goal.returns-in_err-m
returns-in_err-m c = handed_on c.from_residual-in_err-m.ensures.1 (search (path_whole, c.in_ok-p.was, c.in_ok-n.was, c.in_err-m.was))

pub returns-in_err-end : goal.returns-in_err-end
returns-in_err-end c = handed_on c.from_residual-in_err-end.ensures.1 (search (path_whole, c.in_ok-p.was, c.in_ok-n.was, c.in_ok-m.was, c.in_err-end.was))

pub returns : goal.returns
returns c = search (path_whole, c.in_ok-p.was, c.in_ok-n.was, c.in_ok-m.was, c.in_ok-end.was)
