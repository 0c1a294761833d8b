-- `condition::values::read_i64` meets its contract. Assumes nothing.
use Rattle.condition.proofs.Given.{words}
use Rattle.condition.proofs.values.read_i64.Goals as goal

pub returns-then-saturating_sub-lt8 : goal.returns-then-saturating_sub-lt8
returns-then-saturating_sub-lt8 c = search words

pub returns : goal.returns
returns c = search words
