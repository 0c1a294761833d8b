use Rattle.rules.proofs.Judging.{numbers}
use Rattle.rules.proofs.judge.not_numeric.Goals as goal

pub returns-then-are_ordered : goal.returns-then-are_ordered
returns-then-are_ordered c = search numbers

pub returns : goal.returns
returns c = search numbers
