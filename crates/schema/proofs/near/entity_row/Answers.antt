-- `schema::near::entity_row` meets its contract. Assumes nothing.
use Rattle.schema.proofs.Following.{following}
use Rattle.schema.proofs.near.entity_row.Goals as goal

pub returns : goal.returns
returns c = search following
