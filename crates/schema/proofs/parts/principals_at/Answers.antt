-- `schema::parts::principals_at` meets its contract. Assumes nothing.
use Rattle.schema.proofs.Views.{action_parts}
use Rattle.schema.proofs.parts.principals_at.Goals as goal

pub past_word-id-requires : goal.past_word-id-requires
past_word-id-requires c = search action_parts

pub past_word-requires : goal.past_word-requires
past_word-requires c = search action_parts
