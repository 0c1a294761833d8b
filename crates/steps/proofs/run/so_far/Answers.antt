-- `steps::run::so_far` meets its contract. Assumes nothing.
use Rattle.steps.proofs.Doing.{doings}
use Rattle.steps.proofs.run.so_far.Goals as goal

pub returns-then-state-eq0 : goal.returns-then-state-eq0
returns-then-state-eq0 c = search doings

pub returns : goal.returns
returns c = search doings
