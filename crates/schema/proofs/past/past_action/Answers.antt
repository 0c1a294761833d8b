-- `schema::past::past_action` meets its contract. Assumes nothing.
use Rattle.schema.proofs.Passing.{whole_action}
use Rattle.schema.proofs.past.past_action.Goals as goal

pub past_word-id-requires : goal.past_word-id-requires
past_word-id-requires c = search whole_action

pub past_word-principals-requires : goal.past_word-principals-requires
past_word-principals-requires c = search whole_action

pub past_names-resources-requires : goal.past_names-resources-requires
past_names-resources-requires c = search whole_action

pub past_names-context-requires : goal.past_names-context-requires
past_names-context-requires c = search whole_action

pub past_type-requires : goal.past_type-requires
past_type-requires c = search whole_action

pub returns : goal.returns
returns c = search whole_action
