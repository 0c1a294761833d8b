-- `sums::run::in_record` meets its contract. Assumes nothing.
use Rattle.sums.proofs.Running.{run_over}
use Rattle.sums.proofs.run.in_record.Goals as goal

pub returns : goal.returns
returns c = search run_over
