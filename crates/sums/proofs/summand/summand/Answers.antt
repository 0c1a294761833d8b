-- `sums::summand::summand` meets its contract. Assumes nothing.
use Rattle.sums.proofs.Judging.{summands}
use Rattle.sums.proofs.summand.summand.Goals as goal

pub returns : goal.returns
returns c = search summands
