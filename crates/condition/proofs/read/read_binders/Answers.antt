-- `condition::read::read_binders` meets its contract. Assumes nothing.
use Rattle.condition.proofs.Leaves.{rows}
use Rattle.names.specs.Laws.Readers.{handed_on}
use Rattle.condition.proofs.read.read_binders.Goals as goal

pub returns-in_default : goal.returns-in_default
returns-in_default c = search rows

pub loop-init : goal.loop-init
loop-init c = search rows

pub returns-in_err-at : goal.returns-in_err-at
returns-in_err-at c = handed_on c.from_residual.ensures.1 (search (rows, c.in_err-at.was))

pub loop-preserved : goal.loop-preserved
loop-preserved c = search (rows, c.in_ok-at.was)

pub returns : goal.returns
returns c = search rows
