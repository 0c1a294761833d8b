-- `sums::summand::summand_bound` meets its contract. Assumes nothing.
use Rattle.sums.proofs.Judging.{either_way}
use Rattle.sums.proofs.summand.summand_bound.Goals as goal

pub returns-in-Flat : goal.returns-in-Flat
returns-in-Flat c = search either_way

pub returns-in-Own : goal.returns-in-Own
returns-in-Own c = search either_way
