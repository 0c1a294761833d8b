-- `schema::read::read_entities` meets its contract. Assumes nothing.
use Rattle.schema.proofs.Rows.{rows}
use Rattle.names.specs.Laws.Readers.{handed_on}
use Rattle.schema.proofs.read.read_entities.Goals as goal

pub loop-init : goal.loop-init
loop-init c = search rows

pub returns-in_err-n : goal.returns-in_err-n
returns-in_err-n c = handed_on c.from_residual.ensures.1 (search (rows, c.in_err-n.was))

pub loop-preserved : goal.loop-preserved
loop-preserved c = search (rows, c.in_ok-n.was)

pub returns : goal.returns
returns c = search rows
