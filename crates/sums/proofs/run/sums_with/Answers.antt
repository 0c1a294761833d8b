-- `sums::run::sums_with` meets its contract. Assumes nothing.
use Rattle.sums.proofs.Running.{running}
use Rattle.sums.proofs.run.sums_with.Goals as goal

pub invariant_of-record : goal.invariant_of-record
invariant_of-record c = search running

pub returns-in-Ok : goal.returns-in-Ok
returns-in-Ok c = search running

pub returns-in-Err : goal.returns-in-Err
returns-in-Err c = search running
