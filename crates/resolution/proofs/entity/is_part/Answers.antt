use Rattle.resolution.proofs.OneType.{own}
use Rattle.resolution.proofs.entity.is_part.Goals as goal

pub returns-then-same : goal.returns-then-same
returns-then-same c = search own

pub returns-else-same : goal.returns-else-same
returns-else-same c = search own
