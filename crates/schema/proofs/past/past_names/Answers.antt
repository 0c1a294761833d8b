-- `schema::past::past_names` meets its contract: what is left of the names ends where all do. Assumes nothing.
use Rattle.schema.proofs.Passing.{along_names}
use Rattle.schema.proofs.past.past_names.Goals as goal

pub overflow_add-at : goal.overflow_add-at
overflow_add-at c = search along_names

pub count_at-end-requires : goal.count_at-end-requires
count_at-end-requires c = search along_names

pub loop-init : goal.loop-init
loop-init c = search along_names

pub past_word-at-requires : goal.past_word-at-requires
past_word-at-requires c = search along_names

pub loop-preserved : goal.loop-preserved
loop-preserved c = search along_names

pub returns : goal.returns
returns c = search along_names
