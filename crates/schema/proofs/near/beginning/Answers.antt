-- `schema::near::beginning` meets its contract. Assumes nothing.
use Rattle.schema.proofs.Following.{following}
use Rattle.schema.proofs.near.beginning.Goals as goal

pub returns-then-is_below : goal.returns-then-is_below
returns-then-is_below c = search following
