-- `schema::find::past_part` meets its contract. Assumes nothing.
use Rattle.schema.proofs.TypeNames.{parts}
use Rattle.schema.proofs.find.past_part.Goals as goal

pub returns-then-t-from-clause-by_index : goal.returns-then-t-from-clause-by_index
returns-then-t-from-clause-by_index c = search parts

pub returns-then-t-colons-lt2-clause-by_index : goal.returns-then-t-colons-lt2-clause-by_index
returns-then-t-colons-lt2-clause-by_index c = search parts

pub returns-then-same-2-clause-by_index : goal.returns-then-same-2-clause-by_index
returns-then-same-2-clause-by_index c = search parts

pub returns-then-same-clause-by_index : goal.returns-then-same-clause-by_index
returns-then-same-clause-by_index c = search parts

pub returns-clause-by_index : goal.returns-clause-by_index
returns-clause-by_index c = search parts
