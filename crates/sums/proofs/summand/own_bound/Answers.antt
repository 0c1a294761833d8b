-- `sums::summand::own_bound` meets its contract. Assumes nothing.
use Rattle.sums.proofs.Judging.{own_first}
use Rattle.sums.proofs.summand.own_bound.Goals as goal

pub returns-in-Nothing : goal.returns-in-Nothing
returns-in-Nothing c = search own_first

pub returns-in_default : goal.returns-in_default
returns-in_default c = search own_first
