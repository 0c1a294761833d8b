use Rattle.resolution.proofs.Admitted.{environments}
use Rattle.resolution.proofs.scope.admits_any_env.Goals as goal

pub returns-then-side_admits : goal.returns-then-side_admits
returns-then-side_admits c = search environments

pub returns-else-side_admits : goal.returns-else-side_admits
returns-else-side_admits c = search environments
