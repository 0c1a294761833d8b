-- `targets::read::read_alone` meets its contract. Assumes nothing.
use Rattle.targets.proofs.Reading.{target_alone}
use Rattle.names.specs.Laws.Readers.{handed_on}
use Rattle.targets.proofs.read.read_alone.Goals as goal

pub returns-in_err-end : goal.returns-in_err-end
returns-in_err-end c = handed_on c.from_residual.ensures.1 (search (target_alone, c.in_err-end.was))

pub returns : goal.returns
returns c = search (target_alone, c.in_ok-end.was)
