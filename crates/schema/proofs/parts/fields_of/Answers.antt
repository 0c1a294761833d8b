-- `schema::parts::fields_of` meets its contract. Assumes nothing.
use Rattle.schema.proofs.Views.{entity_parts}
use Rattle.schema.proofs.parts.fields_of.Goals as goal

pub past_word-p-requires : goal.past_word-p-requires
past_word-p-requires c = search entity_parts

pub past_names-requires : goal.past_names-requires
past_names-requires c = search entity_parts

pub returns : goal.returns
returns c = search entity_parts
