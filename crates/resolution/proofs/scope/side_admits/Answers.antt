use Rattle.resolution.proofs.Admitted.{sides}
use Rattle.resolution.proofs.scope.side_admits.Goals as goal

pub returns-then-is_absent : goal.returns-then-is_absent
returns-then-is_absent c = search sides

pub returns-else-is_absent : goal.returns-else-is_absent
returns-else-is_absent c = search sides
