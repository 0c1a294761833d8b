-- `schema::past::past_entities` meets its contract: what is left of the entity types ends where all do. Assumes nothing.
use Rattle.schema.proofs.Passing.{along_entities}
use Rattle.schema.proofs.past.past_entities.Goals as goal

pub loop-init : goal.loop-init
loop-init c = search along_entities

pub past_entity-at-requires : goal.past_entity-at-requires
past_entity-at-requires c = search along_entities

pub loop-preserved : goal.loop-preserved
loop-preserved c = search along_entities

pub returns : goal.returns
returns c = search along_entities
