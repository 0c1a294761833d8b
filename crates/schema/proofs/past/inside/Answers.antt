-- `schema::past::inside` meets its contract. Assumes nothing.
use Rattle.schema.proofs.Passing.{insides}
use Rattle.schema.proofs.past.inside.Goals as goal

pub count_at-requires : goal.count_at-requires
count_at-requires c = search insides

pub past_word-requires : goal.past_word-requires
past_word-requires c = search insides

pub returns-in-Record : goal.returns-in-Record
returns-in-Record c = search insides

pub returns-in-Extension : goal.returns-in-Extension
returns-in-Extension c = search insides

pub returns-in_default : goal.returns-in_default
returns-in_default c = search insides
