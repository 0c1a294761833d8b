-- `targets::list::count_at` meets its contract. Assumes nothing.
use Rattle.targets.proofs.Accepted.{lists}
use Rattle.targets.proofs.list.count_at.Goals as goal

pub past_narrowing-resource-requires : goal.past_narrowing-resource-requires
past_narrowing-resource-requires c = search lists

pub past_narrowing-requires : goal.past_narrowing-requires
past_narrowing-requires c = search lists

pub returns-clause-counted_at : goal.returns-clause-counted_at
returns-clause-counted_at c = search lists

pub returns-clause-value : goal.returns-clause-value
returns-clause-value c = search lists
