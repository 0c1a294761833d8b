-- `schema::read::action_follows` meets its contract. Assumes nothing.
use Rattle.schema.proofs.Rows.{actions}
use Rattle.schema.proofs.read.action_follows.Goals as goal

pub returns-in-None : goal.returns-in-None
returns-in-None c = search actions
