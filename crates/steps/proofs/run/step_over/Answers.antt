-- `steps::run::step_over` meets its contract. Assumes nothing.
use Rattle.steps.proofs.Calls.{calls}
use Rattle.steps.proofs.run.step_over.Goals as goal

pub returns-then-state-gt0 : goal.returns-then-state-gt0
returns-then-state-gt0 c = search calls

pub returns-in-Some : goal.returns-in-Some
returns-in-Some c = search calls

pub returns-in-None : goal.returns-in-None
returns-in-None c = search calls
