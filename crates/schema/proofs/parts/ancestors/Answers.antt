-- `schema::parts::ancestors` meets its contract. Assumes nothing.
use Rattle.schema.proofs.Views.{entity_parts}
use Rattle.schema.proofs.parts.ancestors.Goals as goal

pub past_word-p-requires : goal.past_word-p-requires
past_word-p-requires c = search entity_parts

pub row_at-requires : goal.row_at-requires
row_at-requires c = search entity_parts

pub returns : goal.returns
returns c = search entity_parts
