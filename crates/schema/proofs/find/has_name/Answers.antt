-- `schema::find::has_name` meets its contract. Assumes nothing.
use Rattle.schema.proofs.Among.{among}
use Rattle.schema.proofs.find.has_name.Goals as goal

pub returns-then-same : goal.returns-then-same
returns-then-same c = search among

pub past_word-at-requires : goal.past_word-at-requires
past_word-at-requires c = search among

pub loop-preserved : goal.loop-preserved
loop-preserved c = search among

pub returns : goal.returns
returns c = search among
