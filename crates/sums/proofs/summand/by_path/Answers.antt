-- `sums::summand::by_path` meets its contract. Assumes nothing.
use Rattle.sums.proofs.Judging.{paths}
use Rattle.condition.specs.Laws.Records.{record_small}
use Rattle.sums.proofs.summand.by_path.Goals as goal

pub returns-then-same : goal.returns-then-same
returns-then-same c = search (paths, record_small)

pub returns-then-is_decimal : goal.returns-then-is_decimal
returns-then-is_decimal c = search (paths, record_small)

pub returns : goal.returns
returns c = search (paths, record_small)
