-- `targets::read::read_list` meets its contract. Assumes nothing.
use Rattle.targets.proofs.Reading.{target_rows}
use Rattle.names.specs.Laws.Readers.{handed_on}
use Rattle.targets.proofs.read.read_list.Goals as goal

pub returns-in_default : goal.returns-in_default
returns-in_default c = search target_rows

pub loop-init : goal.loop-init
loop-init c = search target_rows

pub returns-in_err-at : goal.returns-in_err-at
returns-in_err-at c = handed_on c.from_residual.ensures.1 (search (target_rows, c.in_err-at.was))

pub loop-preserved : goal.loop-preserved
loop-preserved c = search (target_rows, c.in_ok-at.was)

pub returns : goal.returns
returns c = search target_rows
