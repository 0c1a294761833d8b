-- `sums::summand::append` meets its contract. Assumes nothing.
use Rattle.sums.proofs.Judging.{appending}
use Rattle.sums.proofs.summand.append.Goals as goal

pub one_more-requires : goal.one_more-requires
one_more-requires c = search appending

pub returns-then-has_room : goal.returns-then-has_room
returns-then-has_room c = search appending

pub returns : goal.returns
returns c = search appending
