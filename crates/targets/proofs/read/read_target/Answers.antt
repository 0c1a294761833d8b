-- `targets::read::read_target` meets its contract. Assumes nothing.
use Rattle.targets.proofs.Reading.{target_rows}
use Rattle.names.specs.Laws.Readers.{handed_on}
use Rattle.targets.proofs.read.read_target.Goals as goal

pub returns-in_err-n : goal.returns-in_err-n
returns-in_err-n c = handed_on c.from_residual.ensures.1 (search (target_rows, c.in_err-n.was))

pub returns : goal.returns
returns c = search (target_rows, c.in_ok-n.was)
