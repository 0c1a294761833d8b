-- `targets::scope::past_narrowing` meets its contract. Assumes nothing.
use Rattle.targets.proofs.Accepted.{kinds}
use Rattle.targets.proofs.scope.past_narrowing.Goals as goal

pub returns-in_default : goal.returns-in_default
returns-in_default c = search kinds

pub past_word-requires : goal.past_word-requires
past_word-requires c = search kinds

pub returns-in-0 : goal.returns-in-0
returns-in-0 c = search kinds

pub returns-in_default-kind : goal.returns-in_default-kind
returns-in_default-kind c = search kinds
