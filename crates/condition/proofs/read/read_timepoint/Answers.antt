-- `condition::read::read_timepoint` meets its contract. Assumes nothing.
use Rattle.condition.proofs.Leaves.{leaves}
use Rattle.names.specs.Laws.Readers.{handed_on}
use Rattle.condition.proofs.read.read_timepoint.Goals as goal

pub returns-in_err-n : goal.returns-in_err-n
returns-in_err-n c = handed_on c.from_residual.ensures.1 (search (leaves, c.in_err-n.was))

pub returns : goal.returns
returns c = search (leaves, c.in_ok-n.was)
