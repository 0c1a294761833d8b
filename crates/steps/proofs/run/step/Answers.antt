-- `steps::run::step` meets its contract. Assumes nothing.
use Rattle.steps.proofs.Calls.{calls}
use Rattle.steps.proofs.run.step.Goals as goal

pub returns-in-Ok-clause-buf_after : goal.returns-in-Ok-clause-buf_after
returns-in-Ok-clause-buf_after c = search calls

pub returns-in-Ok-clause-spared : goal.returns-in-Ok-clause-spared
returns-in-Ok-clause-spared c = search calls

pub returns-in-Err-clause-buf_after : goal.returns-in-Err-clause-buf_after
returns-in-Err-clause-buf_after c = search calls
