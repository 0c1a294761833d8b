-- `targets::scope::resource_at` meets its contract. Assumes nothing.
use Rattle.targets.proofs.Accepted.{scopes}
use Rattle.targets.proofs.scope.resource_at.Goals as goal

pub past_narrowing-requires : goal.past_narrowing-requires
past_narrowing-requires c = search scopes

pub returns : goal.returns
returns c = search scopes
