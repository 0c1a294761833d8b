-- `schema::near::entity_near` meets its contract. Assumes nothing.
use Rattle.schema.proofs.Following.{following}
use Rattle.schema.proofs.near.entity_near.Goals as goal

pub past_entity-next-requires : goal.past_entity-next-requires
past_entity-next-requires c = search following

pub returns-then-is_below : goal.returns-then-is_below
returns-then-is_below c = search following

pub loop-left-preserved : goal.loop-left-preserved
loop-left-preserved c = search following

pub returns : goal.returns
returns c = search following
