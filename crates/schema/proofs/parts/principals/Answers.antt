-- `schema::parts::principals` meets its contract. Assumes nothing.
use Rattle.schema.proofs.Views.{action_parts}
use Rattle.schema.proofs.parts.principals.Goals as goal

pub row_at-requires : goal.row_at-requires
row_at-requires c = search action_parts

pub returns : goal.returns
returns c = search action_parts
