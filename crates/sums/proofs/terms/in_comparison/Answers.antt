-- `sums::terms::in_comparison` meets its contract. Assumes nothing.
use Rattle.sums.proofs.Visiting.{nodes}
use Rattle.sums.proofs.terms.in_comparison.Goals as goal

pub returns : goal.returns
returns c = search nodes
