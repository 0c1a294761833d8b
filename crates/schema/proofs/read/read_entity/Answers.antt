-- `schema::read::read_entity` meets its contract. Assumes nothing.
use Rattle.schema.proofs.Rows.{rows}
use Rattle.names.specs.Laws.Readers.{handed_on}
use Rattle.schema.proofs.read.read_entity.Goals as goal

pub returns-in_err-n : goal.returns-in_err-n
returns-in_err-n c = handed_on c.from_residual.ensures.1 (search (rows, c.in_err-n.was))

pub returns-in_err-m : goal.returns-in_err-m
returns-in_err-m c = handed_on c.from_residual-in_err-m.ensures.1 (search (rows, c.in_ok-n.was, c.in_err-m.was))

pub returns : goal.returns
returns c = search (rows, c.in_ok-n.was, c.in_ok-m.was)
