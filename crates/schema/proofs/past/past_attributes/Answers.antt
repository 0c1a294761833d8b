-- `schema::past::past_attributes` meets its contract. What is left of the attributes ends where all do. Assumes nothing.
use Rattle.schema.proofs.Passing.{along_fields}
use Rattle.schema.proofs.past.past_attributes.Goals as goal

pub loop-left-init : goal.loop-left-init
loop-left-init c = search along_fields

pub past_word-requires : goal.past_word-requires
past_word-requires c = search along_fields

pub inside-within-requires : goal.inside-within-requires
inside-within-requires c = search along_fields

pub loop-left-preserved : goal.loop-left-preserved
loop-left-preserved c = search along_fields

pub returns : goal.returns
returns c = search along_fields
