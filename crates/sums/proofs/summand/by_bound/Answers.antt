-- `sums::summand::by_bound` meets its contract. Assumes nothing.
use Rattle.sums.proofs.Judging.{bounds}
use Rattle.sums.proofs.summand.by_bound.Goals as goal

pub returns-in-Timepoint : goal.returns-in-Timepoint
returns-in-Timepoint c = search bounds

pub returns-in-Nothing : goal.returns-in-Nothing
returns-in-Nothing c = search bounds
