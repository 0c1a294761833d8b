-- `condition::values::read_entity` meets its contract. Assumes nothing.
use Rattle.condition.proofs.Given.{entities}
use Rattle.names.specs.Laws.Readers.{handed_on}
use Rattle.condition.proofs.values.read_entity.Goals as goal

pub returns-in_err-n : goal.returns-in_err-n
returns-in_err-n c = handed_on c.from_residual.ensures.1 (search (entities, c.in_err-n.was))

pub returns-then-version-le2 : goal.returns-then-version-le2
returns-then-version-le2 c = search (entities, c.in_ok-n.was)

pub returns : goal.returns
returns c = search (entities, c.in_ok-n.was)
