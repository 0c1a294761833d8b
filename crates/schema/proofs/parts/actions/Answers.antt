-- `schema::parts::actions` meets its contract. Assumes nothing.
use Rattle.schema.proofs.Views.{action_row}
use Rattle.schema.proofs.parts.actions.Goals as goal

pub past_entities-p-requires : goal.past_entities-p-requires
past_entities-p-requires c = search action_row

pub returns-in_default : goal.returns-in_default
returns-in_default c = search action_row

pub returns : goal.returns
returns c = search action_row
