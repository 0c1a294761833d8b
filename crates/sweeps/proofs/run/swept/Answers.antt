-- `sweeps::run::swept` meets its contract. Assumes nothing.
use Rattle.sweeps.proofs.Running.{sweeping}
use Rattle.sweeps.proofs.run.swept.Goals as goal

pub returns-in-None : goal.returns-in-None
returns-in-None c = search sweeping

pub returns-in-Some : goal.returns-in-Some
returns-in-Some c = search (sweeping, c.in-Some.ensures, c.in-Some.period.ok)
