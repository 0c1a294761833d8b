-- `steps::run::start` meets its contract. Assumes nothing.
use Rattle.steps.proofs.Calls.{calls}
use Rattle.steps.proofs.run.start.Goals as goal

pub returns-in-Ok : goal.returns-in-Ok
returns-in-Ok c = search calls

pub returns-in-Err : goal.returns-in-Err
returns-in-Err c = search calls
