-- `schema::parts::context` meets its contract. Assumes nothing.
use Rattle.schema.proofs.Views.{action_parts}
use Rattle.schema.proofs.parts.context.Goals as goal

pub past_names-requires : goal.past_names-requires
past_names-requires c = search action_parts

pub returns : goal.returns
returns c = search action_parts
