-- `schema::find::attribute` meets its contract. Assumes nothing.
use Rattle.schema.proofs.Fields.{lookup}
use Rattle.schema.proofs.find.attribute.Goals as goal

pub overflow_add-at : goal.overflow_add-at
overflow_add-at c = search lookup

pub count_at-end-requires : goal.count_at-end-requires
count_at-end-requires c = search lookup

pub loop-init : goal.loop-init
loop-init c = search lookup

pub past_word-n-requires : goal.past_word-n-requires
past_word-n-requires c = search lookup

pub returns-then-same : goal.returns-then-same
returns-then-same c = search lookup

pub past_type-at-requires : goal.past_type-at-requires
past_type-at-requires c = search lookup

pub loop-preserved : goal.loop-preserved
loop-preserved c = search lookup

pub returns : goal.returns
returns c = search lookup
