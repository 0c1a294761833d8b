-- `sums::summand::in_sum` meets its contract. Assumes nothing.
use Rattle.sums.proofs.Judging.{slots}
use Rattle.sums.proofs.summand.in_sum.Goals as goal

pub returns-in_default : goal.returns-in_default
returns-in_default c = search slots

pub returns : goal.returns
returns c = search slots
