-- `condition::read::read_span` meets its contract. Assumes nothing.
use Rattle.condition.proofs.Leaves.{leaves}
use Rattle.condition.proofs.read.read_span.Goals as goal

pub returns : goal.returns
returns c = search leaves
