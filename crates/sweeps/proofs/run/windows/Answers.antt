-- `sweeps::run::windows` meets its contract. Assumes nothing.
use Rattle.sweeps.proofs.Running.{running}
use Rattle.sweeps.proofs.run.windows.Goals as goal

pub invariant_of-swept : goal.invariant_of-swept
invariant_of-swept c = search running

pub returns-in-Ok : goal.returns-in-Ok
returns-in-Ok c = search running

pub returns-in-Err : goal.returns-in-Err
returns-in-Err c = search running
