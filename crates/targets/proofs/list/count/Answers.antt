-- `targets::list::count` meets its contract. Assumes nothing.
use Rattle.targets.proofs.Accepted.{lists}
use Rattle.targets.proofs.list.count.Goals as goal

pub returns-clause-value : goal.returns-clause-value
returns-clause-value c = search lists
