-- `schema::find::action_among` meets its contract. Assumes nothing.
use Rattle.schema.proofs.ActionRow.{action_search}
use Rattle.schema.proofs.find.action_among.Goals as goal

pub loop-init : goal.loop-init
loop-init c = search action_search

pub returns-then-is_action : goal.returns-then-is_action
returns-then-is_action c = search action_search

pub past_action-at-requires : goal.past_action-at-requires
past_action-at-requires c = search action_search

pub loop-preserved : goal.loop-preserved
loop-preserved c = search action_search

pub returns : goal.returns
returns c = search action_search
