-- `sweeps::run::in_condition` meets its contract. Assumes nothing.
use Rattle.sweeps.proofs.Running.{conditions}
use Rattle.sweeps.proofs.run.in_condition.Goals as goal

pub returns-in-Seconds : goal.returns-in-Seconds
returns-in-Seconds c = search conditions

pub returns-in-Parameter : goal.returns-in-Parameter
returns-in-Parameter c = search conditions
