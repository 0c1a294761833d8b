-- `targets::list::first_target` meets its contract. Assumes nothing.
use Rattle.targets.proofs.Accepted.{lists}
use Rattle.targets.proofs.list.first_target.Goals as goal

pub returns : goal.returns
returns c = search lists
