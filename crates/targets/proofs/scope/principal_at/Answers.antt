-- `targets::scope::principal_at` meets its contract. Assumes nothing.
use Rattle.targets.proofs.Accepted.{scopes}
use Rattle.targets.proofs.scope.principal_at.Goals as goal

pub returns : goal.returns
returns c = search scopes
