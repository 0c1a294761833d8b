-- `schema::parts::resources_at` meets its contract. Assumes nothing.
use Rattle.schema.proofs.Views.{action_parts}
use Rattle.schema.proofs.parts.resources_at.Goals as goal

pub past_names-requires : goal.past_names-requires
past_names-requires c = search action_parts
