-- `schema::past::past_entity` meets its contract. Assumes nothing.
use Rattle.schema.proofs.Passing.{whole_entity}
use Rattle.schema.proofs.past.past_entity.Goals as goal

pub past_word-ancestors-requires : goal.past_word-ancestors-requires
past_word-ancestors-requires c = search whole_entity

pub past_names-fields-requires : goal.past_names-fields-requires
past_names-fields-requires c = search whole_entity

pub past_fields-requires : goal.past_fields-requires
past_fields-requires c = search whole_entity

pub returns : goal.returns
returns c = search whole_entity
